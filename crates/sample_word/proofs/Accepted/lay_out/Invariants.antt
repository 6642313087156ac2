use Rattle.std.proofs.Common.{◌≡◌, ℕ, ◌<◌, length}
use Rattle.codes.specs.Words.{at}
use Rattle.sample_word.specs.Sample.{symbol_of}
use Rattle.sample_word.proofs.Accepted.lay_out.Given as goal

abbrev pub invariant-loop-p : goal.invariant-loop-p
invariant-loop-p l = record { long : length l.x-items ≡ 11; written : (k : ℕ) → k < l.p → at l.x-items k ≡ symbol_of l.self.symbols k }
