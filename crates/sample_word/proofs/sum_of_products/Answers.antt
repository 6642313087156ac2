use Rattle.sample_word.proofs.Products.{no_sum_fault}
use Rattle.sample_word.proofs.sum_of_products.Goals as goal

pub returns-in_err-total : goal.returns-in_err-total
returns-in_err-total g c h K =
    absurd
    (no_sum_fault _ (g.F.Field.lawful c.args.field.now) _ _ h K _ _ _ _ _ c.loop-i-test.true c.in_ok-coefficient.ensures c.in_ok-product.ensures
    (c.loop-i.invariant h K) c.in_err-total.ensures)
