use Rattle.std.proofs.Common.{◌/◌, ◌^◌, ◌∙◌, ap₂, add-one}
use lib.Bits.{bit_xor, and_mask}
use Rattle.array_codes.proofs.parity.Goals as goal

pub loop-b-preserved : goal.loop-b-preserved
loop-b-preserved c = ap₂ bit_xor c.loop-b.invariant (and_mask (c.args.x / 2 ^ c.loop-b.b) 1) ∙ rw add-one
