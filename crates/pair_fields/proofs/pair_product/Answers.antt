use Rattle.std.proofs.Common.{arith}
use Rattle.pair_fields.proofs.WorkedPairs.{c_granted, sums_granted, product_refused, product_stands}
use Rattle.pair_fields.proofs.pair_product.Goals as goal

pub returns-in_err-ad : goal.returns-in_err-ad
returns-in_err-ad g c = grind (arith, product_refused _ (g.F.Field.lawful c.args.base.now) c.args.x c.args.y)

pub returns-in_err-all : goal.returns-in_err-all
returns-in_err-all g c =
    absurd (sums_granted _ (g.F.Field.lawful c.args.base.now) _ _ _ _ _ _ _ c.in_ok-ad.ensures c.in_ok-be.ensures c.in_err-all.ensures)

pub returns-in_err-adc : goal.returns-in_err-adc
returns-in_err-adc g c =
    absurd (c_granted _ (g.F.Field.lawful c.args.base.now) _ _ _ _ _ c.in_ok-ad.ensures c.c.ensures c.in_err-adc.ensures)

pub returns : goal.returns
returns g c = grind (arith, product_stands _ (g.F.Field.lawful c.args.base.now) c.args.x c.args.y)
