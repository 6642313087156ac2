use Rattle.std.proofs.Common.{ℕ, length, get_or, take, ◌∙◌, arith, rules}
use Rattle.erasures.specs.Elimination.{times, dot}
use Rattle.repair.specs.Rows.{cell}
use Rattle.repair.proofs.Lists.{tabulated, dot_front}
use Rattle.repair.proofs.elimination.column_of.Goals as goal

pub returns : goal.returns
returns g c =
    let m = g.C.Code.meaning c.args.code.now in
    let few = (g.C.Code.lawful c.args.code.now).few_checks in
    let n = c.args.count in
    let made = c.tabulate in
    let column = c.entries_at-entries in
    let front = take n column.result in
    let product = λ (i : ℕ). dot (times m.field) (length front) (cell c.args.rows.now i) (λ j. get_or front j 0) in
    let t = tabulated m.field made.result n m.checks product c.requires.count
    (λ i l. let h = made.ensures.given i l in search rules) made.ensures.zeros in
    record {
      elements = t.0;
      value = λ i l. t.1 i l ∙ dot_front (times m.field) (cell c.args.rows.now i) column.result n m.checks (λ j. m.entry j c.args.place) c.requires.count (omega arith) column.ensures.value;
    }
