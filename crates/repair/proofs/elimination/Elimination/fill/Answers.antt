use Rattle.std.proofs.Common.{◌≡◌, ◌+◌, ◌<◌, length, set, take, Some, sym, ap, ◌∙◌, subst, arith, get_or-take}
use Rattle.repair.specs.declared.rows.Row.{Row}
use Rattle.repair.specs.Rows.{no_row, row_at, place_at, Filled}
use Rattle.repair.proofs.Filling.{filled_row, filled_none}
use Rattle.repair.proofs.elimination.Elimination.fill.Goals as goal
use Rattle.repair.proofs.elimination.Elimination.fill.Goals.{in-Some, in_default}

pub bounds-word-place : goal.bounds-word-place
bounds-word-place g c =
    let rows = c.args.self.now.rows in
    let i = c.loop-row.row-index in
    let here : i < c.checks.result = omega arith in
    let same : row_at (take c.checks.result rows) i ≡ row_at rows i = get_or-take c.checks.result rows i no_row here in
    c.requires.within i c.in-Some.place (omega arith) (sym (ap (λ (row : Row). row.place) same) ∙ c.in-Some.is)

pub loop-row-preserved : goal.loop-row-preserved
loop-row-preserved g c =
    let rows = c.args.self.now.rows in
    let word = c.loop-row.word in
    let i = c.loop-row.row-index in
    let here : i < c.checks.result = omega arith in
    let same : row_at (take c.checks.result rows) i ≡ row_at rows i = get_or-take c.checks.result rows i no_row here in
    let Next = Filled rows (i + 1) c.args.word.now in
    elim c.match-row.branch [
      | in-Some w ↦
          let p = w.in-Some.place in
          let used : place_at rows i ≡ Some p = sym (ap (λ (row : Row). row.place) same) ∙ w.in-Some.is in
          let within = c.requires.within i p (omega arith) used in
          let room : p < length word = omega arith in
          subst Next (sym (w.word-is ∙ ap (λ (row : Row). set word p row.sum) same))
          (filled_row rows c.args.word.now word i c.loop-row.invariant p room used
          (λ o l e. let q = c.requires.once o i p (omega arith) (omega arith) e used in omega arith))
      | in_default w ↦
          subst Next (sym w.word-is)
          (filled_none rows c.args.word.now word i c.loop-row.invariant (λ p e. w.in_default.not-Some p (ap (λ (row : Row). row.place) same ∙ e)))
    ]
