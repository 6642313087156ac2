-- Numbers by their bits.
use Rattle.std.proofs.Common.{◌≡◌, ℕ, zero, suc, ◌+◌, ◌-◌, ◌*◌, ◌/◌, ◌%◌, ◌^◌, ◌<◌, ◌≤◌, sym, ap, ◌∙◌, subst, ⊎_elim, mod-lt, mod-eq_of_lt, mul_assoc, one-mul, mul-zero, div-add-mod', zero-mul, one-add, arith, lit<, pow_pos, pow-add}
use native.Mathlib.Nat.{zero-div, div-eq_of_lt, mod-one}
use lib.Bits.{bit_xor, xor_comm, xor_shr, xor_mod, xor_shifted, shifted_even}
use lib.Pow.{pow-lt, shl-shr, mod-pow-add}
use Rattle.std.proofs.lemmas.Bool.{cases_lt}
use Rattle.std.proofs.lemmas.Nat.{div_below, mod_below}
use Rattle.fields.specs.Meaning.{FieldMeaning, FieldLaws, size}
use Rattle.fields.proofs.Additive.{at_digit, times_digit_additive}
use Rattle.fields.proofs.Identities.{times_zero}
use Rattle.codes.specs.Words.{sum}
use Rattle.codes.specs.Arrays.{bit}
use Rattle.codes.proofs.Sums.{sum_cong, sum_zero, sum_one, sum_below}

pub bit_below : (x b : ℕ) → bit x b < 2
bit_below x b = mod-lt (x / 2 ^ b) (lit< tt)

pub bit_zero : (b : ℕ) → bit 0 b ≡ 0
bit_zero b = ap (λ (t : ℕ). t % 2) (zero-div (2 ^ b))

pub bit_of_xor : (x y b : ℕ) → bit (bit_xor x y) b ≡ bit_xor (bit x b) (bit y b)
bit_of_xor x y b = ap (λ (t : ℕ). t % 2) (xor_shr x y b) ∙ xor_mod (x / 2 ^ b) (y / 2 ^ b) 1

pub bit_sum : (n : ℕ) (f : ℕ → ℕ) (b : ℕ) → bit (sum n f) b ≡ sum n (λ i. bit (f i) b)
bit_sum zero f b = bit_zero b
bit_sum (suc n) f b = bit_of_xor (sum n f) (f n) b ∙ ap (λ (t : ℕ). bit_xor t (bit (f n) b)) (bit_sum n f b)

pub bit_scaled : (d x b : ℕ) → d < 2 → bit (d * x) b ≡ d * bit x b
bit_scaled d x b =
    at_digit (λ d. bit (d * x) b ≡ d * bit x b)
    (ap (λ (t : ℕ). bit t b) (zero-mul x) ∙ bit_zero b ∙ sym (zero-mul (bit x b))) (ap (λ (t : ℕ). bit t b) (one-mul x) ∙ sym (one-mul (bit x b))) d

bit_small : (x b : ℕ) → x < 2 ^ b → bit x b ≡ 0
bit_small x b h = ap (λ (t : ℕ). t % 2) (div-eq_of_lt h)

bit_own : (d b : ℕ) → d < 2 → bit (d * 2 ^ b) b ≡ d
bit_own d b h = ap (λ (t : ℕ). t % 2) (shl-shr d b) ∙ mod-eq_of_lt h

bit_under : (d c e : ℕ) → bit (d * 2 ^ (suc e + c)) c ≡ 0
bit_under d c e =
    cc (pow-add 2 (suc e) c, mul_assoc d (2 ^ suc e) (2 ^ c), shl-shr (d * 2 ^ suc e) c, shifted_even d e)

bit_lower : (d b c : ℕ) → c < b → bit (d * 2 ^ b) c ≡ 0
bit_lower d b c h =
    let e : suc (b - 1 - c) + c ≡ b = omega arith in
    subst (λ (t : ℕ). bit (d * 2 ^ t) c ≡ 0) e (bit_under d c (b - 1 - c))

digit_lt : (k d x : ℕ) → d < 2 → x < 2 ^ k → d * x < 2 ^ k
digit_lt k d x hd hx = at_digit (λ d. d * x < 2 ^ k) (omega (arith, pow_pos k)) (omega arith) d hd

pub digit_sum : (d n : ℕ) (g : ℕ → ℕ) → d < 2 → d * sum n g ≡ sum n (λ i. d * g i)
digit_sum d zero g h = mul-zero d
digit_sum d (suc n) g h = times_digit_additive d h (sum n g) (g n) ∙ ap (λ (t : ℕ). bit_xor t (d * g n)) (digit_sum d n g h)

-- the number whose bits are g
abbrev pub pack : ℕ → (ℕ → ℕ) → ℕ
pack w g = sum w (λ c. g c * 2 ^ c)

pub pack_below : (w : ℕ) (g : ℕ → ℕ) → ((c : ℕ) → c < w → g c < 2) → pack w g < 2 ^ w
pack_below w g h = sum_below w w (λ c. g c * 2 ^ c) (λ c l. digit_lt w (g c) (2 ^ c) (h c l) (pow-lt l))

pub bit_pack : (w : ℕ) (g : ℕ → ℕ) → ((c : ℕ) → c < w → g c < 2) → (c : ℕ) → c < w → bit (pack w g) c ≡ g c
bit_pack w g h c l =
    bit_sum w (λ i. g i * 2 ^ i) c
    ∙ sum_one w (λ i. bit (g i * 2 ^ i) c) c l
    (λ i m ne.
    ⊎_elim
    (λ (o : i < c). bit_small (g i * 2 ^ i) c (digit_lt c (g i) (2 ^ i) (h i m) (pow-lt o)))
    (λ (o : c ≤ i). bit_lower (g i) i c (omega arith))
    (cases_lt i c))
    ∙ bit_own (g c) c (h c l)

pack_mod : (w x : ℕ) → pack w (bit x) ≡ x % 2 ^ w
pack_mod zero x = sym (mod-one x)
pack_mod (suc w) x =
    cc (pack_mod w x, xor_comm (x % 2 ^ w) (bit x w * 2 ^ w), xor_shifted (bit x w) w (x % 2 ^ w) (mod-lt x (pow_pos w)), mod-pow-add x 1 w, one-add w)

pub pack_bit : (w x : ℕ) → x < 2 ^ w → pack w (bit x) ≡ x
pack_bit w x h = pack_mod w x ∙ mod-eq_of_lt h

-- a number below 2 ^ w with no bit below w is 0
pub zero_bits : (w x : ℕ) → x < 2 ^ w → ((b : ℕ) → b < w → bit x b ≡ 0) → x ≡ 0
zero_bits w x h z =
    sym (pack_bit w x h) ∙ sum_zero w (λ c. bit x c * 2 ^ c) (λ c l. ap (λ (t : ℕ). t * 2 ^ c) (z c l) ∙ zero-mul (2 ^ c))

-- every number below n * m is one of row and column
pub in_grid : (P : ℕ → Type 0) (n m : ℕ) → 0 < m → ((i c : ℕ) → i < n → c < m → P (i * m + c)) → (p : ℕ) → p < n * m → P p
in_grid P n m pos h p l =
    subst P (div-add-mod' p m) (h (p / m) (p % m) (div_below p m n pos l) (mod_below p m pos))

module _ (f : FieldMeaning) (L : FieldLaws f) where
  pub product_sum : (x n : ℕ) (g : ℕ → ℕ) → x < size f → ((i : ℕ) → i < n → g i < size f) → f.product x (sum n g) ≡ sum n (λ i. f.product x (g i))
  product_sum x zero g hx h = times_zero f L x hx
  product_sum x (suc n) g hx h =
      L.distributes x (sum n g) (g n) hx (sum_below f.width n g (λ i l. h i (omega arith))) (h n (omega arith))
      ∙ ap (λ (t : ℕ). bit_xor t (f.product x (g n))) (product_sum x n g hx (λ i l. h i (omega arith)))

  product_digit : (x d y : ℕ) → x < size f → d < 2 → f.product x (d * y) ≡ d * f.product x y
  product_digit x d y hx =
      at_digit (λ d. f.product x (d * y) ≡ d * f.product x y)
      (ap (f.product x) (zero-mul y) ∙ times_zero f L x hx ∙ sym (zero-mul (f.product x y))) (ap (f.product x) (one-mul y) ∙ sym (one-mul (f.product x y))) d

  -- bit b of x times the number whose bits are g
  pub product_pack : (x : ℕ) (g : ℕ → ℕ) (b : ℕ) → x < size f → ((c : ℕ) → c < f.width → g c < 2)
      → bit (f.product x (pack f.width g)) b ≡ sum f.width (λ c. g c * bit (f.product x (2 ^ c)) b)
  product_pack x g b hx h =
      ap (λ (t : ℕ). bit t b)
      (product_sum x f.width (λ c. g c * 2 ^ c) hx (λ c l. digit_lt f.width (g c) (2 ^ c) (h c l) (pow-lt l))
      ∙ sum_cong f.width _ _ (λ c l. product_digit x (g c) (2 ^ c) hx (h c l)))
      ∙ bit_sum f.width (λ c. g c * f.product x (2 ^ c)) b
      ∙ sum_cong f.width _ _ (λ c l. bit_scaled (g c) (f.product x (2 ^ c)) b (h c l))
