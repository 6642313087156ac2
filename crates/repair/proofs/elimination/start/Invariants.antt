use Rattle.std.proofs.Common.{ℕ, ◌<◌, get_or}
use Rattle.repair.specs.Rows.{row_at, UnitRow, AllElements}
use Rattle.repair.proofs.elimination.start.Given as goal

abbrev pub invariant-loop-check : goal.invariant-loop-check
invariant-loop-check g l =
    let m = g.C.Code.meaning l.code in
    record {
      units : (i : ℕ) → i < l.check → UnitRow i (get_or l.syndrome i 0) (row_at l.row-items i);
      elements : AllElements m.field l.row-items;
    }
