use Rattle.std.proofs.Common.{arith}
use Rattle.std.proofs.lemmas.Result.{err_from_is_err_and}
use Rattle.pair_fields.proofs.WorkedPairs.{inverse_times_granted, inverse_norm_refused, inverse_refused_below, inverse_stands}
use Rattle.pair_fields.proofs.pair_inverse.Goals as goal

pub returns-in_err-n : goal.returns-in_err-n
returns-in_err-n g c = grind (arith, inverse_norm_refused _ (g.F.Field.lawful c.args.base.now) c.args.x c.coefficients-a.result.0 c.coefficients-a.result.1)

pub returns-in_err-inverse : goal.returns-in_err-inverse
returns-in_err-inverse g c =
    let q = err_from_is_err_and c.from_residual-in_err-inverse.result c.from_residual-in_err-inverse.ensures.1 in
    rw (q.1, q.2) (inverse_refused_below _ (g.F.Field.lawful c.args.base.now) c.args.x c.coefficients-a.result.0 c.coefficients-a.result.1 (cc) (cc) _ _ c.in_ok-n.ensures c.in_err-inverse.ensures)

pub returns-in_err-up : goal.returns-in_err-up
returns-in_err-up g c =
    absurd ((inverse_times_granted _ (g.F.Field.lawful c.args.base.now) _ _ _ _ _ c.in_ok-n.ensures c.in_ok-inverse.ensures).0 c.in_err-up.ensures)

pub returns-in_err-down : goal.returns-in_err-down
returns-in_err-down g c =
    absurd ((inverse_times_granted _ (g.F.Field.lawful c.args.base.now) _ _ _ _ _ c.in_ok-n.ensures c.in_ok-inverse.ensures).1 c.in_err-down.ensures)

pub returns : goal.returns
returns g c = grind (arith, inverse_stands _ (g.F.Field.lawful c.args.base.now) c.args.x c.coefficients-a.result.0 c.coefficients-a.result.1)
