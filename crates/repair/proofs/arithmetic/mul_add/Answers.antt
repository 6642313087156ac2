use lib.Bits.{xor_lt}
use Rattle.repair.proofs.arithmetic.mul_add.Goals as goal

pub returns-clause-element : goal.returns-clause-element
returns-clause-element g c =
    xor_lt (g.C.Code.meaning c.args.code.now).field.width c.args.to c.product.result c.requires.to c.product.ensures.element
