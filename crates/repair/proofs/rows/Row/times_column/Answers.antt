use Rattle.std.proofs.Common.{get_or, rules}
use Rattle.repair.proofs.rows.Row.times_column.Goals as goal

pub returns-clause-value : goal.returns-clause-value
returns-clause-value g c = c.dot_product.ensures.value (λ j. get_or c.args.self.now.combination j 0) (λ j x l given. search rules)
