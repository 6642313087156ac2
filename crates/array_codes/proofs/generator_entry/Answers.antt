use Rattle.array_codes.proofs.Products.{generator_granted}
use Rattle.array_codes.proofs.generator_entry.Goals as goal

pub returns-in_err-entry : goal.returns-in_err-entry
returns-in_err-entry g c =
    absurd (generator_granted _ (g.V.Code.lawful c.args.code.now) (g.V.Code.generating c.args.code.now) c.bits-w.result c.args.index c.args.place _
    c.bits-w.ensures.value c.requires.index c.requires.place c.in_err-entry.ensures)
