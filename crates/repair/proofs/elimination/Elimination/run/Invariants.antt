use Rattle.erasures.specs.Agreement.{held}
use Rattle.erasures.specs.Elimination.{Eliminated}
use Rattle.repair.specs.Rows.{syndrome_of, cell, sum_at, place_at, AllElements}
use Rattle.repair.proofs.elimination.Elimination.run.Given as goal

abbrev pub invariant-loop-place : goal.invariant-loop-place
invariant-loop-place g l =
    let m = g.C.Code.meaning l.code in
    record {
      eliminated : Eliminated m.field m.checks (λ p j. m.entry j p) (syndrome_of m (held m l.cells)) (held m l.cells) l.place
          (cell l.self.rows) (sum_at l.self.rows) (place_at l.self.rows) l.self.undetermined;
      elements : AllElements m.field l.self.rows;
    }
