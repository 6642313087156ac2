use Rattle.std.proofs.Common.{◌∙◌, ap, rules}
use Rattle.binary_fields.specs.Tables.{table_meaning}
use Rattle.sample_word.proofs.Calls.{entry_is}
use Rattle.sample_word.proofs.Words.{row_sum_is}
use Rattle.sample_word.proofs.row_sum.Goals as goal

pub returns : goal.returns
returns c =
    let base = c.sample_code-code.ensures in
    row_sum_is c.sum_of_products.ensures (c.field.ensures ∙ ap table_meaning base) c.requires.word c.told-word c.requires.check
    (λ p l y a. let e = entry_is c.sample_code-code.result.base c.args.check p base c.requires.check l in search rules)
