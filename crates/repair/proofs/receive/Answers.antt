use Rattle.std.proofs.Common.{◌≡◌, ℕ, ◌<◌, ◌≤◌, get_or, sym, ap, ◌∙◌, subst, ⊎_elim, arith, rules}
use Rattle.std.proofs.lemmas.Bool.{cases_lt}
use Rattle.fields.specs.Meaning.{size}
use Rattle.erasures.specs.Agreement.{held}
use Rattle.erasures.specs.Elimination.{received}
use Rattle.erasures.proofs.Agreeing.{held_past}
use Rattle.erasures.proofs.Repairing.{received_below}
use Rattle.repair.proofs.receive.Goals as goal

pub returns : goal.returns
returns g c =
    let m = g.C.Code.meaning c.args.code.now in
    let cells = c.args.cells.now in
    let value : (p : ℕ) → get_or c.tabulate.result p 0 ≡ received (held m cells p) =
    λ p.
    ⊎_elim (λ l. let h = c.tabulate.ensures.given p l in search rules)
    (λ l. let past : m.places ≤ p = omega arith in c.tabulate.ensures.zeros p l ∙ sym (ap received (held_past m cells p past)))
    (cases_lt p c.places.result) in
    record { elements = λ p. subst (λ (x : ℕ). x < size m.field) (sym (value p)) (received_below m cells p); value = value }
