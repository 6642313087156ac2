use Rattle.std.proofs.Common.{rules}
use Rattle.repair.proofs.Lists.{tabulated}
use Rattle.repair.proofs.elimination.entries_at.Goals as goal

pub returns : goal.returns
returns g c =
    let m = g.C.Code.meaning c.args.code.now in
    let made = c.tabulate in
    let t = tabulated m.field made.result c.args.count m.checks (λ j. m.entry j c.args.place) c.requires.count (λ j l. let h = made.ensures.given j l in search rules) made.ensures.zeros in
    record { elements = t.0; value = t.1 }
