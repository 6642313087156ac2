use Rattle.std.proofs.Common.{◌≡◌, ℕ, ◌<◌, ◌≤◌, get_or}
use Rattle.erasures.specs.Elimination.{times, Elements}
use Rattle.repair.proofs.rows.Row.assign.Given as goal

abbrev pub invariant-loop-x : goal.invariant-loop-x
invariant-loop-x g l =
    let f = (g.C.Code.meaning l.code).field in
    record {
      below : (k : ℕ) → k < l.x-index → get_or l.x-items k 0 ≡ times f l.by (get_or l.initial.x-items k 0);
      above : (k : ℕ) → l.x-index ≤ k → get_or l.x-items k 0 ≡ get_or l.initial.x-items k 0;
      elements : Elements f l.x-items;
    }
