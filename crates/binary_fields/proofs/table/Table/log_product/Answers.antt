use native.Mathlib.Omega.{arith}
use Rattle.fields.proofs.Identities.{times_zero, zero_times}
use Rattle.binary_fields.specs.Laws.{table_laws}
use Rattle.binary_fields.proofs.table.Table.log_product.Goals as goal

pub returns-then-x-eq0 : goal.returns-then-x-eq0
returns-then-x-eq0 c = grind (arith, zero_times _ (table_laws c.args.self) c.args.y c.requires.right, times_zero _ (table_laws c.args.self) c.args.x c.requires.left)
