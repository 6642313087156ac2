use Rattle.std.proofs.Common.{◌≡◌, ℕ, ◌<◌, ◌+◌, Option, sym, ◌∙◌, subst, arith}
use Rattle.fields.specs.Meaning.{size}
use Rattle.erasures.specs.Agreement.{held}
use Rattle.erasures.specs.Elimination.{Eliminated}
use Rattle.repair.specs.declared.elimination.Elimination.{Elimination}
use Rattle.repair.specs.Rows.{syndrome_of, UnitRow, row_at, cell, sum_at, place_at, AllElements}
use Rattle.repair.proofs.Stepping.{started, held_passed, lost_undetermined, lost_used}
use Rattle.repair.proofs.elimination.Elimination.run.Goals as goal
use Rattle.repair.proofs.elimination.Elimination.run.Goals.{then-is_none+then-is_none-2, else-is_none, else-is_none-via-then-is_none+else-is_none-2, else-is_none-via-else-is_none}

pub loop-place-init : goal.loop-place-init
loop-place-init g c =
    let code = c.args.code.now in
    let m = g.C.Code.meaning code in
    let h = λ (p j : ℕ). m.entry j p in
    let s = syndrome_of m (held m c.args.cells.now) in
    let rows = c.start.new.rows in
    record {
      eliminated = subst (λ (o : Option ℕ). Eliminated m.field m.checks h s (held m c.args.cells.now) 0 (cell rows) (sum_at rows) (place_at rows) o) (sym c.requires.undetermined)
          (started m.field (g.C.Code.lawful code).field_laws m.checks h s (held m c.args.cells.now) rows
          (λ i l. subst (λ (x : ℕ). UnitRow i x (row_at rows i)) (c.requires.syndrome i l) (c.start.ensures.units i l))
          (λ i l. subst (λ (x : ℕ). x < size m.field) (c.requires.syndrome i l) (c.requires.elements i)));
      elements = c.start.ensures.elements;
    }

pub loop-place-preserved : goal.loop-place-preserved
loop-place-preserved g c =
    let code = c.args.code.now in
    let m = g.C.Code.meaning code in
    let L = (g.C.Code.lawful code).field_laws in
    let h = λ (p j : ℕ). m.entry j p in
    let s = syndrome_of m (held m c.args.cells.now) in
    let state = held m c.args.cells.now in
    let place = c.loop-place.place in
    let rows = c.loop-place.self.rows in
    let undetermined = c.loop-place.self.undetermined in
    let E = c.loop-place.invariant.eliminated in
    let Next = λ (next : Elimination). record {
      eliminated : Eliminated m.field m.checks h s state (place + 1) (cell next.rows) (sum_at next.rows) (place_at next.rows) next.undetermined;
      elements : AllElements m.field next.rows;
    } in
    let symbol = c.symbol.result in
    let is = c.symbol.ensures in
    elim c.if-is_none.branch [
      | then-is_none+then-is_none-2 w ↦
          let used = w.use_row in
          subst Next (sym w.self-is)
          (record {
            eliminated = lost_undetermined m.field L m.checks h s state place rows undetermined E used.new.rows symbol used.result is w.if-is_none.ensures w.if-is_none-2.ensures used.ensures.used;
            elements = used.ensures.elements;
          })
      | else-is_none w ↦
          elim w.else-is_none.branch [
            | else-is_none-via-then-is_none+else-is_none-2 w' ↦
                let used = w'.use_row in
                subst Next (sym (w.self-is ∙ w'.self-is))
                (record {
                  eliminated = lost_used m.field L m.checks h s state place rows undetermined E used.new.rows symbol used.result is w'.if-is_none.ensures w'.if-is_none-2.ensures used.ensures.used;
                  elements = used.ensures.elements;
                })
            | else-is_none-via-else-is_none w' ↦
                subst Next (sym (w.self-is ∙ w'.self-is))
                (record {
                  eliminated = held_passed m.field L m.checks h s state place rows undetermined E symbol is w'.if-is_none.ensures;
                  elements = c.loop-place.invariant.elements;
                })
          ]
    ]

pub returns-clause-eliminated : goal.returns-clause-eliminated
returns-clause-eliminated g c =
    let m = g.C.Code.meaning c.args.code.now in
    let end : c.loop-place.place ≡ m.places = omega arith in
    subst
    (λ (n : ℕ). Eliminated m.field m.checks (λ p j. m.entry j p) (syndrome_of m (held m c.args.cells.now)) (held m c.args.cells.now) n
    (cell c.loop-place.self.rows) (sum_at c.loop-place.self.rows) (place_at c.loop-place.self.rows) c.loop-place.self.undetermined)
    end c.loop-place.invariant.eliminated
