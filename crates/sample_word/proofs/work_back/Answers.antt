use Rattle.std.proofs.Common.{◌≡◌, [], ◌∷◌, ap, ◌∙◌, lit<}
use Rattle.sample_word.specs.Sample.{all_row_sums}
use Rattle.sample_word.proofs.Products.{granted}
use Rattle.sample_word.proofs.Words.{held_elements, restored_is, rows_zero}
use Rattle.sample_word.proofs.work_back.Goals as goal

pub row_sum-requires : goal.row_sum-requires
row_sum-requires c = record { word = rw (c.fill.ensures, c.erase-received.ensures) (held_elements c.args.word c.requires); check = lit< tt }

pub row_sums-requires : goal.row_sums-requires
row_sums-requires c = rw (restored_is c.args.word c.requires c.erase-received.ensures c.fill.ensures c.in_ok-symbol.ensures c.fill-restored.ensures) c.requires.elements

pub returns : goal.returns
returns c =
    let received = c.erase-received.ensures in
    let back = restored_is c.args.word c.requires received c.fill.ensures c.in_ok-symbol.ensures c.fill-restored.ensures in
    let sums : c.in_ok-row_sums.field-0 ≡ 0 ∷ 0 ∷ 0 ∷ 0 ∷ [] =
    granted c.in_ok-row_sums.field-0 (all_row_sums c.fill-restored.result) c.in_ok-row_sums.ensures ∙ ap all_row_sums back ∙ rows_zero c.args.word c.requires in
    cc
