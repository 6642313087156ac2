use Rattle.std.proofs.Common.{◌≡◌}
use Rattle.codes.specs.Words.{sum}
use Rattle.codes.specs.Arrays.{bit}
use Rattle.array_codes.proofs.parity.Given as goal

abbrev pub invariant-loop-b : goal.invariant-loop-b
invariant-loop-b l = l.odd ≡ sum l.b (bit l.x)
