use Rattle.std.proofs.Common.{get_or, refl, ◌∙◌, arith, rules}
use Rattle.erasures.specs.Elimination.{times}
use Rattle.repair.proofs.Lists.{dot_front}
use Rattle.repair.proofs.check_sum.Goals as goal

pub returns-clause-value : goal.returns-clause-value
returns-clause-value g c =
    let m = g.C.Code.meaning c.args.code.now in
    let few = (g.C.Code.lawful c.args.code.now).few_places in
    c.dot_product.ensures.value (m.entry c.args.check) (λ p x l given. search rules)
    ∙ dot_front (times m.field) (m.entry c.args.check) c.args.word.now c.places.result m.places (λ p. get_or c.args.word.now p 0) c.places.ensures (omega arith) (λ p l. refl)
