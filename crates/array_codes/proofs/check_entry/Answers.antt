use Rattle.array_codes.proofs.Products.{entry_granted}
use Rattle.array_codes.proofs.check_entry.Goals as goal

pub returns-in_err-entry : goal.returns-in_err-entry
returns-in_err-entry g c =
    absurd (entry_granted _ (g.V.Code.lawful c.args.code.now) c.bits-w.result c.places-rows.result c.args.check c.args.place _
    c.bits-w.ensures.value c.places-rows.ensures c.requires.check c.requires.place c.if-check-rows.false c.in_err-entry.ensures)
