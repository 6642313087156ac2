use Rattle.std.proofs.Common.{arith}
use Rattle.pair_fields.proofs.WorkedPairs.{c_granted, norm_refused, norm_stands}
use Rattle.pair_fields.proofs.norm.Goals as goal

pub returns-in_err-low : goal.returns-in_err-low
returns-in_err-low g c = grind (arith, norm_refused _ (g.F.Field.lawful c.args.base.now) c.args.a c.args.b _ _ c.in_ok-aa.ensures c.in_err-low.ensures)

pub returns-in_err-high : goal.returns-in_err-high
returns-in_err-high g c =
    absurd (c_granted _ (g.F.Field.lawful c.args.base.now) c.args.a c.args.a _ _ _ c.in_ok-aa.ensures c.c.ensures c.in_err-high.ensures)

pub returns : goal.returns
returns g c =
    norm_stands _ (g.F.Field.lawful c.args.base.now) c.args.a c.args.b _ _ _ _ c.in_ok-aa.ensures c.in_ok-low.ensures c.c.ensures c.in_ok-high.ensures
