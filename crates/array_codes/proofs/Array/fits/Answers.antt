use Rattle.codes.proofs.ArrayWords.{words_are_rows}
use Rattle.array_codes.proofs.Array.fits.Goals as goal

pub returns-clause-words : goal.returns-clause-words
returns-clause-words g c = words_are_rows _ (g.V.Code.lawful c.args.self.now.code)
