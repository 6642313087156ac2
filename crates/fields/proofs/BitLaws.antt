-- The numbers 0 and 1 are a field.
use Rattle.std.proofs.Common.{◌≡◌, ℕ, ◌*◌, ◌<◌, sym, ap, subst, mul_assoc, mul_comm, one-mul, zero-mul, arith, lit<, lit≤}
use lib.Bits.{bit_xor}
use Rattle.fields.specs.Meaning.{FieldLaws}
use Rattle.fields.specs.Polynomials.{gf2}
use Rattle.fields.proofs.Additive.{at_digit, times_digit_additive}

pub bit_laws : FieldLaws gf2
bit_laws = record {
  some_bits = lit≤ tt;
  few_bits = lit≤ tt;
  closed = λ x y hx hy. at_digit (λ x. x * y < 2) (subst (λ (n : ℕ). n < 2) (sym (zero-mul y)) (lit< tt)) (subst (λ (n : ℕ). n < 2) (sym (one-mul y)) hy) x hx;
  commutes = λ x y hx hy. mul_comm x y;
  associates = λ x y z hx hy hz. mul_assoc x y z;
  distributes = λ x y z hx hy hz. times_digit_additive x hx y z;
  neutral = λ x hx. one-mul x;
  inverts = λ x hx ne. (1, lit< tt, let e : x ≡ 1 = omega arith in ap (λ (n : ℕ). n * 1) e);
  roll_below = λ i h. lit< tt;
  roll_nonzero = λ i h e. omega (arith, e);
  roll_once = λ i j hi hj e. omega arith;
  c_below = lit< tt;
  c_rootless = at_digit (λ z. bit_xor (z * z) z ≡ 1 → ⊥) (λ e. omega (arith, e)) (λ e. omega (arith, e));
}
