use Rattle.std.proofs.Common.{sym, ◌∙◌}
use Rattle.fields.proofs.Answered.{inverse_granted}
use Rattle.erasures.proofs.Products.{times_is}
use Rattle.repair.proofs.arithmetic.inverse.Goals as goal

pub returns : goal.returns
returns g c =
    let f = (g.C.Code.meaning c.args.code.now).field in
    let L = (g.C.Code.lawful c.args.code.now).field_laws in
    let z = c.unwrap.result in
    let (hx, ne, hz, e) = inverse_granted f L c.args.x z (sym c.unwrap.ensures ∙ rw c.field.ensures at c.inverse.ensures) in
    record { value = times_is f L z c.args.x hz hx ∙ L.commutes z c.args.x hz hx ∙ e; element = hz }
