use Rattle.codes.proofs.ThreeColumns.{three_independent, three_tell_apart}
use Rattle.extended_codes.proofs.FourTimes.erasures.Goals as goal

pub returns-clause-independent : goal.returns-clause-independent
returns-clause-independent g c = three_independent _ (g.B.Field.lawful c.args.self.now.base)

pub returns-clause-apart : goal.returns-clause-apart
returns-clause-apart g c = three_tell_apart _ (g.B.Field.lawful c.args.self.now.base)
