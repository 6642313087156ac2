use Rattle.std.proofs.Common.{◌≡◌, ℕ, ◌<◌, ◌≤◌, ◌≢◌, get_or}
use Rattle.repair.specs.Rows.{row_at, place_at, AllElements, Added}
use Rattle.repair.proofs.elimination.clear.Given as goal

abbrev pub invariant-loop-i : goal.invariant-loop-i
invariant-loop-i g l =
    let m = g.C.Code.meaning l.code in
    record {
      same : row_at l.row-items l.at ≡ l.pivot_row;
      below : (o : ℕ) → o < l.i → (o ≢ l.at) → Added m.field m.checks (get_or l.column o 0) l.pivot_row (row_at l.initial.row-items o) (row_at l.row-items o);
      above : (o : ℕ) → l.i ≤ o → row_at l.row-items o ≡ row_at l.initial.row-items o;
      places : (o : ℕ) → place_at l.row-items o ≡ place_at l.initial.row-items o;
      elements : AllElements m.field l.row-items;
    }
