use Rattle.std.proofs.Common.{ℕ, ◌<◌, get_or}
use Rattle.repair.proofs.arithmetic.tabulate.Given as goal

abbrev pub invariant-loop-i : goal.invariant-loop-i
invariant-loop-i g l = (k : ℕ) → k < l.i → goal.F-post g l.at k (get_or l.x-items k 0)
