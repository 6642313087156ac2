use Rattle.repair.specs.Rows.{Filled}
use Rattle.repair.proofs.elimination.Elimination.fill.Given as goal

abbrev pub invariant-loop-row : goal.invariant-loop-row
invariant-loop-row g l = Filled l.self.rows l.row-index l.initial.word l.word
