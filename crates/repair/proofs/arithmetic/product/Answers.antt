use Rattle.std.proofs.Common.{sym, ◌∙◌}
use Rattle.fields.proofs.Answered.{both_granted}
use Rattle.erasures.proofs.Products.{times_is}
use Rattle.repair.proofs.arithmetic.product.Goals as goal

pub returns-clause-value : goal.returns-clause-value
returns-clause-value g c =
    let f = (g.C.Code.meaning c.args.code.now).field in
    let L = (g.C.Code.lawful c.args.code.now).field_laws in
    let (hx, hy, e) = both_granted f c.args.x c.args.y (f.product c.args.x c.args.y) c.unwrap.result (sym c.unwrap.ensures ∙ rw c.field.ensures at c.product.ensures) in
    e ∙ sym (times_is f L c.args.x c.args.y hx hy)
