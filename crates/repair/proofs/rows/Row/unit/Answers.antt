use Rattle.std.proofs.Common.{ℕ, replicate, refl, ◌∙◌, arith, get_or-set_other, get_or-set_same}
use lib.ListN.{length-replicate}
use Rattle.repair.proofs.Lists.{zeros_at}
use Rattle.repair.proofs.rows.Row.unit.Goals as goal

pub returns : goal.returns
returns c = record {
  one = get_or-set_same (replicate 96 0) c.args.check 1 0 (omega (arith, length-replicate {A = ℕ} 96 0));
  zeros = λ j n. get_or-set_other (replicate 96 0) c.args.check j 1 0 n ∙ zeros_at 96 j;
  sum = refl;
  place = refl;
}
