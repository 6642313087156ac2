use Rattle.codes.proofs.Plus.{sum_is_word, message_tells_word}
use Rattle.codes.proofs.Code.parameters.Goals as goal

pub returns-clause-linear : goal.returns-clause-linear
returns-clause-linear g c = sum_is_word _ (g.Self.Code.lawful c.args.self.now)

pub returns-clause-told : goal.returns-clause-told
returns-clause-told g c = message_tells_word _ (g.Self.Code.lawful c.args.self.now)
