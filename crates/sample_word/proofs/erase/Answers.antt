use Rattle.std.proofs.Common.{ℕ, List, Some, None, Option, ap, set, rules}
use Rattle.sample_word.proofs.Lists.{mapped}
use Rattle.sample_word.proofs.erase.Goals as goal

pub returns : goal.returns
returns c =
    ap (λ (xs : List (Option ℕ)). set xs 3 None)
    (mapped _ Some _ (λ x y q k. search rules) 0 None c.args.word.now c.map-received.result 11 c.told-word c.map-received.ensures.items)
