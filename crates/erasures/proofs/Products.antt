-- A field's product on all numbers, and sums of products.
use Rattle.std.proofs.Common.{◌≡◌, ℕ, zero, suc, ◌+◌, ◌%◌, ◌^◌, ◌<◌, sym, ap, ◌∙◌, ap₂, mod-lt, mod-eq_of_lt, add-one, pow_pos}
use lib.Bits.{bit_xor, xor_mod}
use Rattle.fields.specs.Meaning.{FieldMeaning, FieldLaws, size}
use Rattle.fields.proofs.Additive.{additive_zero}
use Rattle.fields.proofs.Identities.{one_below}
use Rattle.codes.specs.Words.{sum}
use Rattle.codes.proofs.Sums.{sum_cong, sum_xor, sum_below, sum_swap}
use Rattle.erasures.specs.Elimination.{times, Times, dot}

module _ (f : FieldMeaning) (L : FieldLaws f) where
  rest : (x : ℕ) → x % size f < size f
  rest x = mod-lt x (pow_pos f.width)

  again : (x y : ℕ) → f.product (x % size f) (y % size f) % size f ≡ f.product (x % size f) (y % size f)
  again x y = mod-eq_of_lt (L.closed (x % size f) (y % size f) (rest x) (rest y))

  -- at elements it is the field's product
  pub times_is : (x y : ℕ) → x < size f → y < size f → times f x y ≡ f.product x y
  unfolding times
  times_is x y hx hy = ap₂ f.product (mod-eq_of_lt hx) (mod-eq_of_lt hy)

  pub times_laws : Times f.width (times f)
  unfolding times
  times_laws = record {
    below = λ x y. L.closed (x % size f) (y % size f) (rest x) (rest y);
    commutes = λ x y. L.commutes (x % size f) (y % size f) (rest x) (rest y);
    associates = λ x y z.
        ap (λ (w : ℕ). f.product w (z % size f)) (again x y)
        ∙ L.associates (x % size f) (y % size f) (z % size f) (rest x) (rest y) (rest z)
        ∙ ap (f.product (x % size f)) (sym (again y z));
    distributes = λ x y z.
        ap (f.product (x % size f)) (xor_mod y z f.width)
        ∙ L.distributes (x % size f) (y % size f) (z % size f) (rest x) (rest y) (rest z);
    neutral = λ x h. ap₂ f.product (mod-eq_of_lt (one_below f L)) (mod-eq_of_lt h) ∙ L.neutral x h;
  }

module _ (width : ℕ) (mul : ℕ → ℕ → ℕ) (T : Times width mul) where
  pub mul_zero : (x : ℕ) → mul x 0 ≡ 0
  mul_zero x = additive_zero (mul x) (T.distributes x)

  pub zero_mul : (x : ℕ) → mul 0 x ≡ 0
  zero_mul x = T.commutes 0 x ∙ mul_zero x

  pub mul_sum : (x n : ℕ) (f : ℕ → ℕ) → mul x (sum n f) ≡ sum n (λ i. mul x (f i))
  mul_sum x zero f = mul_zero x
  mul_sum x (suc n) f = T.distributes x (sum n f) (f n) ∙ ap (λ (y : ℕ). bit_xor y (mul x (f n))) (mul_sum x n f)

  -- x (y z) is y (x z)
  pub mul_left : (x y z : ℕ) → mul x (mul y z) ≡ mul y (mul x z)
  mul_left x y z = sym (T.associates x y z) ∙ ap (λ (w : ℕ). mul w z) (T.commutes x y) ∙ T.associates y x z

  module _ (r : ℕ) where
    pub dot_below : (a y : ℕ → ℕ) → dot mul r a y < 2 ^ width
    dot_below a y = sum_below width r (λ j. mul (a j) (y j)) (λ j l. T.below (a j) (y j))

    pub dot_sum : (a y z : ℕ → ℕ) → dot mul r a (λ j. bit_xor (y j) (z j)) ≡ bit_xor (dot mul r a y) (dot mul r a z)
    dot_sum a y z =
        sum_cong r _ (λ j. bit_xor (mul (a j) (y j)) (mul (a j) (z j))) (λ j l. T.distributes (a j) (y j) (z j))
        ∙ sum_xor r (λ j. mul (a j) (y j)) (λ j. mul (a j) (z j))

    -- of columns h, each times its symbol
    pub dot_columns : (a : ℕ → ℕ) (n : ℕ) (h : ℕ → ℕ → ℕ) (x : ℕ → ℕ)
        → dot mul r a (λ j. sum n (λ p. mul (h p j) (x p))) ≡ sum n (λ p. mul (dot mul r a (h p)) (x p))
    dot_columns a n h x =
        sum_cong r _ (λ j. sum n (λ p. mul (x p) (mul (a j) (h p j))))
        (λ j l.
        mul_sum (a j) n (λ p. mul (h p j) (x p))
        ∙ sum_cong n _ _ (λ p o. ap (mul (a j)) (T.commutes (h p j) (x p)) ∙ mul_left (a j) (x p) (h p j)))
        ∙ sum_swap r n (λ j p. mul (x p) (mul (a j) (h p j)))
        ∙ sum_cong n _ _ (λ p o. sym (mul_sum (x p) r (λ j. mul (a j) (h p j))) ∙ T.commutes (x p) (dot mul r a (h p)))

    -- a row that is a multiple of another
    pub dot_scaled : (a b y : ℕ → ℕ) (c : ℕ) → ((j : ℕ) → j < r → b j ≡ mul c (a j)) → dot mul r b y ≡ mul c (dot mul r a y)
    dot_scaled a b y c h =
        sum_cong r _ (λ j. mul c (mul (a j) (y j))) (λ j l. ap (λ (z : ℕ). mul z (y j)) (h j l) ∙ T.associates c (a j) (y j))
        ∙ sym (mul_sum c r (λ j. mul (a j) (y j)))

    -- a row with a multiple of another added
    pub dot_added : (a b d y : ℕ → ℕ) (c : ℕ) → ((j : ℕ) → j < r → b j ≡ bit_xor (a j) (mul c (d j)))
        → dot mul r b y ≡ bit_xor (dot mul r a y) (mul c (dot mul r d y))
    dot_added a b d y c h =
        sum_cong r _ (λ j. bit_xor (mul (a j) (y j)) (mul c (mul (d j) (y j))))
        (λ j l.
        ap (λ (z : ℕ). mul z (y j)) (h j l) ∙ T.commutes (bit_xor (a j) (mul c (d j))) (y j)
        ∙ T.distributes (y j) (a j) (mul c (d j))
        ∙ ap₂ bit_xor (T.commutes (y j) (a j)) (T.commutes (y j) (mul c (d j)) ∙ T.associates c (d j) (y j)))
        ∙ sum_xor r (λ j. mul (a j) (y j)) (λ j. mul c (mul (d j) (y j)))
        ∙ ap (bit_xor (dot mul r a y)) (sym (mul_sum c r (λ j. mul (d j) (y j))))

pub sum_next : (n : ℕ) (f : ℕ → ℕ) → sum (n + 1) f ≡ bit_xor (sum n f) (f n)
sum_next n f = ap (λ (m : ℕ). sum m f) (add-one n)
