use Rattle.std.proofs.Common.{None, unwrap_or, rules}
use Rattle.sample_word.proofs.Lists.{mapped}
use Rattle.sample_word.proofs.fill.Goals as goal

pub returns : goal.returns
returns c =
    mapped _ (λ o. unwrap_or o c.args.symbol) _ (λ x y q k. search rules) None 0 c.args.received.now c.map.result 11 c.told-received c.map.ensures.items
