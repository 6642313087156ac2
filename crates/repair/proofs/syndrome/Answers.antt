use Rattle.std.proofs.Common.{ℕ, get_or, rules}
use Rattle.codes.specs.Words.{sum}
use Rattle.erasures.specs.Elimination.{times}
use Rattle.repair.proofs.Lists.{tabulated}
use Rattle.repair.proofs.syndrome.Goals as goal

pub returns : goal.returns
returns g c =
    let m = g.C.Code.meaning c.args.code.now in
    let made = c.tabulate in
    let check_sum = λ (j : ℕ). sum m.places (λ p. times m.field (m.entry j p) (get_or c.args.word.now p 0)) in
    let t = tabulated m.field made.result c.checks.result m.checks check_sum c.checks.ensures (λ j l. let h = made.ensures.given j l in search rules) made.ensures.zeros in
    record { elements = t.0; value = t.1 }
