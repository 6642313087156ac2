use Rattle.std.proofs.Common.{ℕ, ◌<◌}
use Rattle.codes.specs.Words.{at}
use Rattle.sample_word.proofs.AcceptedTryFromRefSliceU16.try_from.Given as goal

abbrev pub invariant-loop-i : goal.invariant-loop-i
invariant-loop-i l = (k : ℕ) → k < l.i-counter → at l.symbols k < 8
