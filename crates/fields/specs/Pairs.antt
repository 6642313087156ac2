-- The pairs over a field of at most 4 bits with q elements: a * q + b stands for a t + b, where t t = t + c.
use Rattle.std.specs.Prelude.{ℕ, ◌+◌, ◌*◌, ◌/◌, ◌%◌, if◌then◌else◌, bit_xor, nat_le}
use Rattle.fields.specs.Meaning.{FieldMeaning, size}

-- the two coefficients of (a t + b) (d t + e), over any sum and product
abbrev pub upper : {A : Type 0} → (A → A → A) → (A → A → A) → A → A → A → A → A
upper add mul a b d e = add (add (mul a d) (mul a e)) (mul b d)

abbrev pub lower : {A : Type 0} → (A → A → A) → (A → A → A) → A → A → A → A → A → A
lower add mul c a b d e = add (mul b e) (mul (mul a d) c)

unfoldable pub pair_product : FieldMeaning → ℕ → ℕ → ℕ
pair_product f x y =
    upper bit_xor f.product (x / size f) (x % size f) (y / size f) (y % size f) * size f
    + lower bit_xor f.product f.c (x / size f) (x % size f) (y / size f) (y % size f)

abbrev pub doubled : FieldMeaning → FieldMeaning
doubled f = record { width = f.width + f.width; product = pair_product f; roll = λ i. i + 1; c = f.c * size f }

-- the pairs over f where it has at most 4 bits, and f itself where it has more
abbrev pub pair : FieldMeaning → FieldMeaning
pair f = if nat_le f.width 4 then doubled f else f

-- the norm of a t + b, over any sum and product: 0 only where a and b are
abbrev pub norm : {A : Type 0} → (A → A → A) → (A → A → A) → A → A → A → A
norm add mul c a b = add (add (mul b b) (mul a b)) (mul (mul a a) c)
