-- The laws of the fields of polynomials: the product is bilinear, so that what is left is computed.
use Rattle.std.proofs.Common.{◌≡◌, ◌≢◌, ℕ, zero, suc, ◌+◌, ◌-◌, ◌*◌, ◌^◌, ◌<◌, Bool, true, false, not, ◌&&◌, ◌||◌, T, eqb, ltb, leb, List, [], ◌∷◌, get_or, sym, refl, ap, ◌∙◌, subst, ⊎_elim, arith, eqb-true, ltb-true, leb-true}
use lib.Bits.{bit_xor}
use lib.Ieee.Bits.{is_true}
use Rattle.std.specs.List.{list_all}
use Rattle.std.proofs.lemmas.Bool.{and_parts, or_cases, not-true, eqb-false}
use Rattle.fields.specs.Meaning.{FieldLaws}
use Rattle.fields.specs.Polynomials.{coefficient, carryless, remainder, product_modulo, power, polynomials}
use Rattle.fields.proofs.Tests.{all, at, same_at, below_at, passed}
use Rattle.fields.proofs.Additive.{
  Additive,
  Bilinear,
  additive_after,
  additive_sum,
  shift_additive,
  coefficient_below,
  times_digit_additive,
  coefficient_times_additive,
  additive_same,
  additive_below,
  bilinear_test,
  bilinear_same,
  bilinear_below,
}

-- ---- the product is bilinear

carryless_left : (n y : ℕ) → Additive (λ x. carryless n x y)
unfolding carryless
carryless_left zero y = λ a b. refl
carryless_left (suc n) y =
    additive_sum (λ x. carryless n x y) (λ x. coefficient y n * (x * 2 ^ n)) (carryless_left n y)
    (additive_after (λ x. coefficient y n * x) (λ x. x * 2 ^ n) (times_digit_additive (coefficient y n) (coefficient_below y n)) (shift_additive n))

carryless_right : (n x : ℕ) → Additive (carryless n x)
unfolding carryless
carryless_right zero x = λ a b. refl
carryless_right (suc n) x =
    additive_sum (carryless n x) (λ y. coefficient y n * (x * 2 ^ n)) (carryless_right n x) (coefficient_times_additive n (x * 2 ^ n))

remainder_additive : (w m n : ℕ) → Additive (remainder w m n)
unfolding remainder
remainder_additive w m zero = λ a b. refl
remainder_additive w m (suc n) =
    additive_after (remainder w m n) (λ p. bit_xor p (coefficient p (w + n) * (m * 2 ^ n))) (remainder_additive w m n)
    (additive_sum (λ p. p) (λ p. coefficient p (w + n) * (m * 2 ^ n)) (λ a b. refl) (coefficient_times_additive (w + n) (m * 2 ^ n)))

pub product_bilinear : (w m : ℕ) → Bilinear (product_modulo w m)
unfolding product_modulo
product_bilinear w m = record {
  left = λ y. additive_after (remainder w m w) (λ x. carryless w x y) (remainder_additive w m w) (carryless_left w y);
  right = λ x. additive_after (remainder w m w) (carryless w x) (remainder_additive w m w) (carryless_right w x);
}

-- ---- what is computed

-- X times x, for x of w terms: a shift, and the modulus where a term of degree w came
abbrev pub twice : ℕ → ℕ → ℕ → ℕ
twice w m x = bit_xor (x * 2) (coefficient x (w - 1) * m)

abbrev twice_power : ℕ → ℕ → ℕ → ℕ
twice_power w m zero = 1
twice_power w m (suc i) = twice w m (twice_power w m i)

-- the least i at which X to the power i is x, from i at the power p on
abbrev log_from : ℕ → ℕ → ℕ → ℕ → ℕ → ℕ → ℕ
log_from w m zero i p x = i
log_from w m (suc n) i p x = elim (eqb p x) [ true ↦ i | false ↦ log_from w m n (suc i) (twice w m p) x ]

abbrev log : ℕ → ℕ → ℕ → ℕ
log w m = log_from w m (2 ^ w) 0 1

-- a times x to the power 2 ^ (n + 1) - 2
abbrev by_squares : ℕ → ℕ → ℕ → ℕ → ℕ → ℕ
by_squares w m zero a x = a
by_squares w m (suc n) a x = let s = product_modulo w m x x in by_squares w m n (product_modulo w m a s) s

abbrev reciprocal : ℕ → ℕ → ℕ → ℕ
reciprocal w m x = by_squares w m (w - 1) 1 x

abbrev inverts_test : ℕ → ℕ → ℕ → Bool
inverts_test w m x = eqb x 0 || (ltb (reciprocal w m x) (2 ^ w) && eqb (product_modulo w m x (reciprocal w m x)) 1)

abbrev at_square : ℕ → ℕ → ℕ → ℕ
at_square w m z = bit_xor (product_modulo w m z z) z

-- the tests of a field by their numbers: its width 0 1, closed 2, commutes 3, associates 4, neutral 5, inverts 6,
-- X by doubling 7 8 9, its powers not 0 and each once 10 11, c 12 13
abbrev pub tests : ℕ → ℕ → ℕ → List Bool
tests w m c =
    leb 1 w
    ∷ leb w 8
    ∷ all w (λ j. all w (λ i. ltb (product_modulo w m (2 ^ i) (2 ^ j)) (2 ^ w)))
    ∷ bilinear_test w (product_modulo w m) (λ x y. product_modulo w m y x)
    ∷ all w (λ k. bilinear_test w (λ x y. product_modulo w m (product_modulo w m x y) (2 ^ k)) (λ x y. product_modulo w m x (product_modulo w m y (2 ^ k))))
    ∷ all w (λ i. eqb (product_modulo w m 1 (2 ^ i)) (2 ^ i))
    ∷ all (2 ^ w) (inverts_test w m)
    ∷ all w (λ i. eqb (product_modulo w m 2 (2 ^ i)) (twice w m (2 ^ i)))
    ∷ ltb 1 (2 ^ w)
    ∷ all w (λ i. ltb (twice w m (2 ^ i)) (2 ^ w))
    ∷ all (2 ^ w - 1) (λ i. ltb 0 (twice_power w m i))
    ∷ all (2 ^ w - 1) (λ i. eqb (log w m (twice_power w m i)) i)
    ∷ ltb c (2 ^ w)
    ∷ all (2 ^ w) (λ z. not (eqb (at_square w m z) c))
    ∷ []

-- ---- what is computed, at every element

pub unless_zero : (x : ℕ) (b : Bool) → (x ≢ 0) → (eqb x 0 || b) ≡ true → b ≡ true
unless_zero x b ne t = ⊎_elim (λ e. absurd (ne (eqb-true x 0 e))) (λ e. e) (or_cases (eqb x 0) b t)

module _ (w m c : ℕ) (t : T (list_all (λ b. b) (tests w m c))) where
  pass : (i : ℕ) → get_or (tests w m c) i true ≡ true
  pass = passed (tests w m c) (is_true (list_all (λ b. b) (tests w m c)) t)

  abbrev mul : ℕ → ℕ → ℕ
  mul = product_modulo w m

  linear : Bilinear mul
  linear = product_bilinear w m

  associates : (x y z : ℕ) → x < 2 ^ w → y < 2 ^ w → z < 2 ^ w → mul (mul x y) z ≡ mul x (mul y z)
  associates x y z hx hy hz =
      additive_same (mul (mul x y)) (λ z. mul x (mul y z)) (linear.right (mul x y)) (additive_after (mul x) (mul y) (linear.right x) (linear.right y)) w
      (λ k hk.
      bilinear_same w (λ x y. mul (mul x y) (2 ^ k)) (λ x y. mul x (mul y (2 ^ k)))
      (record {
        left = λ y. additive_after (λ p. mul p (2 ^ k)) (λ x. mul x y) (linear.left (2 ^ k)) (linear.left y);
        right = λ x. additive_after (λ p. mul p (2 ^ k)) (mul x) (linear.left (2 ^ k)) (linear.right x);
      })
      (record {
        left = λ y. linear.left (mul y (2 ^ k));
        right = λ x. additive_after (mul x) (λ y. mul y (2 ^ k)) (linear.right x) (linear.left (2 ^ k));
      })
      (at w (λ k. bilinear_test w (λ x y. mul (mul x y) (2 ^ k)) (λ x y. mul x (mul y (2 ^ k)))) (pass 4) k hk) x y hx hy)
      z hz

  inverts : (x : ℕ) → x < 2 ^ w → (x ≢ 0) → (y : ℕ) × (y < 2 ^ w) × (mul x y ≡ 1)
  inverts x hx ne =
      let y : ℕ = reciprocal w m x in
      let both = and_parts (ltb y (2 ^ w)) (eqb (mul x y) 1) (unless_zero x (ltb y (2 ^ w) && eqb (mul x y) 1) ne (at (2 ^ w) (inverts_test w m) (pass 6) x hx)) in
      (y, ltb-true y (2 ^ w) both.0, eqb-true (mul x y) 1 both.1)

  -- ---- the powers of X, by doubling

  twice_additive : Additive (twice w m)
  twice_additive = additive_sum (λ x. x * 2) (λ x. coefficient x (w - 1) * m) (shift_additive 1) (coefficient_times_additive (w - 1) m)

  pub twice_is : (x : ℕ) → x < 2 ^ w → mul 2 x ≡ twice w m x
  twice_is = additive_same (mul 2) (twice w m) (linear.right 2) twice_additive w (same_at w (λ i. mul 2 (2 ^ i)) (λ i. twice w m (2 ^ i)) (pass 7))

  pub twice_below : (x : ℕ) → x < 2 ^ w → twice w m x < 2 ^ w
  twice_below = additive_below w (twice w m) twice_additive w (below_at w (2 ^ w) (λ i. twice w m (2 ^ i)) (pass 9))

  twice_power_below : (i : ℕ) → twice_power w m i < 2 ^ w
  twice_power_below zero = ltb-true 1 (2 ^ w) (pass 8)
  twice_power_below (suc i) = twice_below (twice_power w m i) (twice_power_below i)

  power_is : (i : ℕ) → power mul 2 i ≡ twice_power w m i
  unfolding power
  power_is zero = refl
  power_is (suc i) = ap (mul 2) (power_is i) ∙ twice_is (twice_power w m i) (twice_power_below i)

  logs : (i : ℕ) → i + 1 < 2 ^ w → log w m (power mul 2 i) ≡ i
  logs i h = ap (log w m) (power_is i) ∙ same_at (2 ^ w - 1) (λ i. log w m (twice_power w m i)) (λ i. i) (pass 11) i (omega arith)

  pub polynomial_laws : FieldLaws (polynomials w m c)
  polynomial_laws = record {
    some_bits = leb-true 1 w (pass 0);
    few_bits = leb-true w 8 (pass 1);
    closed = bilinear_below w mul linear (pass 2);
    commutes = bilinear_same w mul (λ x y. mul y x) linear (record { left = linear.right; right = linear.left }) (pass 3);
    associates = associates;
    distributes = λ x y z hx hy hz. linear.right x y z;
    neutral = additive_same (mul 1) (λ x. x) (linear.right 1) (λ a b. refl) w (same_at w (λ i. mul 1 (2 ^ i)) (λ i. 2 ^ i) (pass 5));
    inverts = inverts;
    roll_below = λ i h. subst (λ (n : ℕ). n < 2 ^ w) (sym (power_is i)) (twice_power_below i);
    roll_nonzero = λ i h e.
        let p : 0 < twice_power w m i = ltb-true 0 (twice_power w m i) (at (2 ^ w - 1) (λ i. ltb 0 (twice_power w m i)) (pass 10) i (omega arith)) in
        omega (arith, e, power_is i);
    roll_once = λ i j hi hj e. sym (logs i hi) ∙ ap (log w m) e ∙ logs j hj;
    c_below = ltb-true c (2 ^ w) (pass 12);
    c_rootless = λ z hz. eqb-false (at_square w m z) c (not-true (eqb (at_square w m z) c) (at (2 ^ w) (λ z. not (eqb (at_square w m z) c)) (pass 13) z hz));
  }

-- ---- the three fields, each by one computed test

pub gf8_computed : T (list_all (λ b. b) (tests 3 0b1011 1))
unfolding product_modulo carryless remainder
gf8_computed = tt

pub gf16_computed : T (list_all (λ b. b) (tests 4 0b10011 8))
unfolding product_modulo carryless remainder
gf16_computed = tt

pub gf256_computed : T (list_all (λ b. b) (tests 8 0b100011101 32))
unfolding product_modulo carryless remainder
gf256_computed = tt
