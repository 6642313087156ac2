use Rattle.std.proofs.Common.{◌≡◌, ℕ, ◌<◌, length}
use Rattle.codes.specs.Words.{at}
use Rattle.sample_word.specs.Sample.{row_sum}
use Rattle.sample_word.proofs.row_sums.Given as goal

abbrev pub invariant-loop-j : goal.invariant-loop-j
invariant-loop-j l = record { long : length l.sum-items ≡ 4; written : (k : ℕ) → k < l.j → at l.sum-items k ≡ row_sum k l.word }
