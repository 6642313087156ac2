use mathlib.Core.Path.{ap, ◌∙◌}
use Prim.Native.Nat.{ℕ, ◌/◌}
use native.Mathlib.Omega.{arith}
use lib.Bits.{xor_assoc, xor_zero_r, and_mask}
use lib.Pow.{shr-shr}
use Rattle.fields.proofs.Identities.{times_zero}
use Rattle.binary_fields.specs.Laws.{gf256_laws}
use Rattle.binary_fields.proofs.Shifts.{lowest_term}
use Rattle.binary_fields.proofs.shift.shift_product.Goals as goal

pub loop-i-preserved : goal.loop-i-preserved
loop-i-preserved c = (
  ap (λ (n : ℕ). n / 2) c.loop-i.invariant.0 ∙ shr-shr c.args.y c.loop-i._i 1,
  grind (arith, and_mask c.loop-i.rest 1, xor_assoc, lowest_term c.loop-i.shifted c.loop-i.rest),
)

pub returns : goal.returns
returns c = grind (arith, xor_zero_r, times_zero _ gf256_laws c.loop-i.shifted)
