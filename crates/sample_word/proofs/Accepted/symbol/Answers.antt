use Rattle.std.proofs.Common.{◌∙◌, ap, rules}
use Rattle.binary_fields.specs.Tables.{table_meaning}
use Rattle.sample_word.proofs.Calls.{generator_is}
use Rattle.sample_word.proofs.Words.{symbol_is}
use Rattle.sample_word.proofs.Accepted.symbol.Goals as goal

pub returns : goal.returns
returns c =
    let base = c.sample_code-code.ensures in
    symbol_is c.sum_of_products.ensures (c.field.ensures ∙ ap table_meaning base) c.args.self.now.message c.requires
    (λ i l y a. let e = generator_is c.sample_code-code.result.base i c.args.place base l c.requires in search rules)
