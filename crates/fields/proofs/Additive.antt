-- Functions that keep the exclusive or: what they do at the powers of two, they do at every number.
use Rattle.std.proofs.Common.{◌≡◌, ℕ, zero, suc, ◌*◌, ◌/◌, ◌%◌, ◌^◌, ◌<◌, Bool, true, eqb, ltb, sym, ap, ◌∙◌, subst, ap₂, arith, add-zero, mod-lt, one-mul, zero-mul, one-add, lit<, pow_pos, shr_lt}
use lib.Arith.{lt-one}
use lib.Pow.{split}
use lib.Bits.{bit_xor, xor_assoc, xor_comm, xor_self, xor_zero_r, xor_block, xor_shifted, xor_shr, xor_mod, xor_lt}
use Rattle.fields.specs.Polynomials.{coefficient}
use Rattle.fields.proofs.Tests.{all, at, same_at, below_at}

abbrev pub Additive : (ℕ → ℕ) → Type 0
Additive f = (x y : ℕ) → f (bit_xor x y) ≡ bit_xor (f x) (f y)

pub xor_exchange : (a b c d : ℕ) → bit_xor (bit_xor a b) (bit_xor c d) ≡ bit_xor (bit_xor a c) (bit_xor b d)
xor_exchange a b c d = cc (xor_assoc a b (bit_xor c d), xor_assoc b c d, xor_comm b c, xor_assoc c b d, xor_assoc a c (bit_xor b d))

-- a sum of two that is 0 has them equal
pub xor_same : (a b : ℕ) → bit_xor a b ≡ 0 → a ≡ b
xor_same a b e = sym (xor_zero_r a) ∙ ap (bit_xor a) (sym (xor_self b)) ∙ sym (xor_assoc a b b) ∙ ap (λ (x : ℕ). bit_xor x b) e

pub additive_zero : (f : ℕ → ℕ) → Additive f → f 0 ≡ 0
additive_zero f h = h 0 0 ∙ xor_self (f 0)

-- f after g, and the sum of f and g
pub additive_after : (f g : ℕ → ℕ) → Additive f → Additive g → Additive (λ x. f (g x))
additive_after f g hf hg x y = ap f (hg x y) ∙ hf (g x) (g y)

pub additive_sum : (f g : ℕ → ℕ) → Additive f → Additive g → Additive (λ x. bit_xor (f x) (g x))
additive_sum f g hf hg x y = ap₂ bit_xor (hf x y) (hg x y) ∙ xor_exchange (f x) (f y) (g x) (g y)

-- ---- shifts, digits and products with a digit

pub shift_additive : (k : ℕ) → Additive (λ x. x * 2 ^ k)
shift_additive k x y = cc (xor_block k x y 0 0 (pow_pos k) (pow_pos k), add-zero (x * 2 ^ k), add-zero (y * 2 ^ k), add-zero (bit_xor x y * 2 ^ k))

-- what holds at 0 and at 1 holds at every digit
pub at_digit : (P : ℕ → Type 0) → P 0 → P 1 → (d : ℕ) → d < 2 → P d
at_digit P p q zero h = p
at_digit P p q (suc zero) h = q
at_digit P p q (suc (suc d)) h = absurd (omega arith)

pub coefficient_below : (p i : ℕ) → coefficient p i < 2
coefficient_below p i = mod-lt (p / 2 ^ i) (lit< tt)

digit_times : (d e m : ℕ) → d < 2 → e < 2 → bit_xor d e * m ≡ bit_xor (d * m) (e * m)
digit_times d e m hd he =
    at_digit (λ d. bit_xor d e * m ≡ bit_xor (d * m) (e * m)) (ap (λ (t : ℕ). bit_xor t (e * m)) (sym (zero-mul m)))
    (at_digit (λ e. bit_xor 1 e * m ≡ bit_xor (1 * m) (e * m)) (sym (xor_zero_r (1 * m)) ∙ ap (bit_xor (1 * m)) (sym (zero-mul m))) (zero-mul m ∙ sym (xor_self (1 * m))) e he)
    d hd

pub times_digit_additive : (d : ℕ) → d < 2 → Additive (λ x. d * x)
times_digit_additive =
    at_digit (λ d. Additive (λ x. d * x))
    (λ x y. zero-mul (bit_xor x y) ∙ sym (ap₂ bit_xor (zero-mul x) (zero-mul y))) (λ x y. one-mul (bit_xor x y) ∙ sym (ap₂ bit_xor (one-mul x) (one-mul y)))

pub coefficient_times_additive : (i m : ℕ) → Additive (λ p. coefficient p i * m)
coefficient_times_additive i m x y = cc (xor_shr x y i, xor_mod (x / 2 ^ i) (y / 2 ^ i) 1, digit_times (coefficient x i) (coefficient y i) m (coefficient_below x i) (coefficient_below y i))

-- ---- what holds at the powers of two holds at every number

-- what holds at 0, at the powers of two and at sums of numbers at which it holds
pub at_every_number : (P : ℕ → Type 0) → P 0 → ((x y : ℕ) → P x → P y → P (bit_xor x y))
    → (k : ℕ) → ((i : ℕ) → i < k → P (2 ^ i)) → (x : ℕ) → x < 2 ^ k → P x
at_every_number P none sum zero basis x h = subst P (sym (lt-one h)) none
at_every_number P none sum (suc k) basis x h =
    let top : x / 2 ^ k < 2 = shr_lt 1 k (subst (λ (n : ℕ). x < 2 ^ n) (sym (one-add k)) h) in
    subst P (xor_shifted (x / 2 ^ k) k (x % 2 ^ k) (mod-lt x (pow_pos k)) ∙ split x k)
    (sum (x / 2 ^ k * 2 ^ k) (x % 2 ^ k)
    (at_digit (λ d. P (d * 2 ^ k)) (subst P (sym (zero-mul (2 ^ k))) none) (subst P (sym (one-mul (2 ^ k))) (basis k (omega arith))) (x / 2 ^ k) top)
    (at_every_number P none sum k (λ i l. basis i (omega arith)) (x % 2 ^ k) (mod-lt x (pow_pos k))))

pub additive_same : (f g : ℕ → ℕ) → Additive f → Additive g → (k : ℕ) → ((i : ℕ) → i < k → f (2 ^ i) ≡ g (2 ^ i))
    → (x : ℕ) → x < 2 ^ k → f x ≡ g x
additive_same f g hf hg =
    at_every_number (λ x. f x ≡ g x) (additive_zero f hf ∙ sym (additive_zero g hg)) (λ x y p q. hf x y ∙ ap₂ bit_xor p q ∙ sym (hg x y))

pub additive_below : (b : ℕ) (f : ℕ → ℕ) → Additive f → (k : ℕ) → ((i : ℕ) → i < k → f (2 ^ i) < 2 ^ b) → (x : ℕ) → x < 2 ^ k → f x < 2 ^ b
additive_below b f hf =
    at_every_number (λ x. f x < 2 ^ b) (subst (λ (n : ℕ). n < 2 ^ b) (sym (additive_zero f hf)) (pow_pos b))
    (λ x y p q. subst (λ (n : ℕ). n < 2 ^ b) (sym (hf x y)) (xor_lt b (f x) (f y) p q))

-- ---- the same of functions of two numbers, by a computed test

pub record Bilinear (f : ℕ → ℕ → ℕ) : Type 0 where
  pub left : (y : ℕ) → Additive (λ x. f x y)
  pub right : (x : ℕ) → Additive (f x)

abbrev pub bilinear_test : ℕ → (ℕ → ℕ → ℕ) → (ℕ → ℕ → ℕ) → Bool
bilinear_test w f g = all w (λ j. all w (λ i. eqb (f (2 ^ i) (2 ^ j)) (g (2 ^ i) (2 ^ j))))

pub bilinear_same : (w : ℕ) (f g : ℕ → ℕ → ℕ) → Bilinear f → Bilinear g → bilinear_test w f g ≡ true
    → (x y : ℕ) → x < 2 ^ w → y < 2 ^ w → f x y ≡ g x y
bilinear_same w f g F G t x y hx hy =
    additive_same (f x) (g x) (F.right x) (G.right x) w
    (λ j hj.
    additive_same (λ x. f x (2 ^ j)) (λ x. g x (2 ^ j)) (F.left (2 ^ j)) (G.left (2 ^ j)) w
    (same_at w (λ i. f (2 ^ i) (2 ^ j)) (λ i. g (2 ^ i) (2 ^ j)) (at w (λ j. all w (λ i. eqb (f (2 ^ i) (2 ^ j)) (g (2 ^ i) (2 ^ j)))) t j hj))
    x hx)
    y hy

pub bilinear_below : (w : ℕ) (f : ℕ → ℕ → ℕ) → Bilinear f → all w (λ j. all w (λ i. ltb (f (2 ^ i) (2 ^ j)) (2 ^ w))) ≡ true
    → (x y : ℕ) → x < 2 ^ w → y < 2 ^ w → f x y < 2 ^ w
bilinear_below w f F t x y hx hy =
    additive_below w (f x) (F.right x) w
    (λ j hj.
    additive_below w (λ x. f x (2 ^ j)) (F.left (2 ^ j)) w
    (below_at w (2 ^ w) (λ i. f (2 ^ i) (2 ^ j)) (at w (λ j. all w (λ i. ltb (f (2 ^ i) (2 ^ j)) (2 ^ w))) t j hj))
    x hx)
    y hy
