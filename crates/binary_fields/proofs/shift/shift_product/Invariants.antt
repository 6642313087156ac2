use mathlib.Core.Path.{◌≡◌}
use Prim.Native.Nat.{◌/◌, ◌^◌}
use lib.Bits.{bit_xor}
use Rattle.fields.specs.Polynomials.{gf256}
use Rattle.binary_fields.proofs.shift.shift_product.Given as goal

-- what is left to multiply, and the sum so far
abbrev pub invariant-loop-i : goal.invariant-loop-i
invariant-loop-i l = (l.rest ≡ l.y / 2 ^ l._i) × (bit_xor l.sum (gf256.product l.shifted l.rest) ≡ gf256.product l.x l.y)
