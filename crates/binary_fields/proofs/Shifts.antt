-- The products by shifts in the field of 256 elements.
use Rattle.std.specs.Prelude.{◌≡◌, ◌≢◌, ◌||◌, ℕ, ◌+◌, ◌*◌, ◌/◌, ◌%◌, ◌^◌, ◌<◌, ◌≤◌, eqb}
use Rattle.std.proofs.Common.{sym, ap, ◌∙◌, zero-mul, one-mul, arith, eqb-true, refl, lit<}
use Rattle.std.specs.Int.Bits.{bit_xor, xor_zero_r, xor_shifted, xor_assoc}
use Rattle.std.proofs.lemmas.Nat.{xor_comm}
use Rattle.std.proofs.Math.Pow.{split}
use Rattle.fields.specs.Polynomials.{coefficient, carryless, remainder, product_modulo, gf256}
use Rattle.fields.specs.Answers.{inverse}
use Rattle.fields.proofs.Inverses.{inverse_is}
use Rattle.fields.proofs.Tests.{at}
use Rattle.fields.proofs.Additive.{at_digit}
use Rattle.fields.proofs.Identities.{times_one, times_zero}
use Rattle.fields.proofs.PolynomialLaws.{gf256_computed, twice, twice_is, unless_zero}
use Rattle.binary_fields.specs.Laws.{gf256_laws}

abbrev times : ℕ → ℕ → ℕ
times = gf256.product

pub doubled_is : (x : ℕ) → x < 256 → times 2 x ≡ twice 8 0x11d x
doubled_is = twice_is 8 0x11d 32 gf256_computed

-- a product with no term of degree 8
doubled_small : (x : ℕ) → x < 128 → times 2 x ≡ x * 2
doubled_small x h = grind (arith, doubled_is, xor_zero_r)

-- the byte of a shift, where no term of degree 8 came
pub shifted_only : (x : ℕ) → x < 128 → x * 2 % 2 ^ 8 ≡ times 2 x
shifted_only x h = grind (arith, doubled_small)

-- and where one came
pub shifted_and_reduced : (x : ℕ) → 128 ≤ x → x < 256 → bit_xor (x * 2 % 2 ^ 8) 0x1d ≡ times 2 x
shifted_and_reduced x low high =
    let term : 1 * 2 ^ 8 + x * 2 % 2 ^ 8 ≡ x * 2 = omega arith in
    let once : coefficient x 7 * 0x11d ≡ 0x11d = omega arith in
    cc (
      doubled_is x high,
      xor_shifted 1 8 (x * 2 % 2 ^ 8) (omega arith),
      xor_assoc (2 ^ 8) (x * 2 % 2 ^ 8) 0x11d,
      xor_comm (x * 2 % 2 ^ 8) 0x11d,
      xor_assoc (2 ^ 8) 0x11d (x * 2 % 2 ^ 8),
      xor_comm 0x1d (x * 2 % 2 ^ 8),
    )

-- s y = (the lowest term of y) s + (2 s) (the other terms)
pub lowest_term : (s y : ℕ) → s < 256 → y < 256 → times s y ≡ bit_xor (y % 2 * s) (times (times 2 s) (y / 2))
lowest_term s y hs hy =
    let high : y / 2 < 256 = omega arith in
    let high_small : y / 2 < 128 = omega arith in
    let low : y % 2 < 256 = omega arith in
    let even : y / 2 * 2 < 256 = omega arith in
    cc (
      split y 1,
      xor_shifted (y / 2) 1 (y % 2) (omega arith),
      gf256_laws.distributes s (y / 2 * 2) (y % 2) hs even low,
      doubled_small (y / 2) high_small,
      gf256_laws.associates s 2 (y / 2) hs (lit< tt) high,
      gf256_laws.commutes s 2 hs (lit< tt),
      at_digit (λ d. times s d ≡ d * s) (times_zero gf256 gf256_laws s hs ∙ sym (zero-mul s)) (times_one gf256 gf256_laws s hs ∙ sym (one-mul s)) (y % 2) (omega arith),
      xor_comm (times (times 2 s) (y / 2)) (y % 2 * s),
    )

-- ---- the inverse, as a power

abbrev pub power_254 : ℕ → ℕ
power_254 x =
    let x2 = times x x in
    let x3 = times x2 x in
    let x6 = times x3 x3 in
    let x12 = times x6 x6 in
    let x15 = times x12 x3 in
    let x30 = times x15 x15 in
    let x60 = times x30 x30 in
    let x120 = times x60 x60 in
    let x240 = times x120 x120 in
    times (times x240 x12) x2

pub power_254_is : (x y : ℕ) → x < 256 → (x ≢ 0) → y < 256 → y ≡ power_254 x → y ≡ inverse gf256 x
unfolding product_modulo carryless remainder
power_254_is x y hx ne hy e =
    let one = eqb-true (times x (power_254 x)) 1 (unless_zero x (eqb (times x (power_254 x)) 1) ne (at 256 (λ x. eqb x 0 || eqb (times x (power_254 x)) 1) refl x hx)) in
    sym (inverse_is gf256 gf256_laws x y hx hy (ap (times x) e ∙ one))
