use Rattle.std.proofs.Common.{None, replicate, pow_pos}
use Rattle.repair.proofs.Lists.{zeros_at}
use Rattle.repair.proofs.Starting.{repeated_elements}
use Rattle.repair.proofs.elimination.Elimination.new.Goals as goal

pub returns-clause-elements : goal.returns-clause-elements
returns-clause-elements c f =
    repeated_elements f (record { combination = replicate 96 0; sum = 0; place = None }) 96
    (record { combination = λ j. rw (zeros_at 96 j) (pow_pos f.width); sum = pow_pos f.width })
