use Rattle.std.proofs.Common.{refl}
use Rattle.fields.specs.Polynomials.{product_modulo, carryless, remainder, power, gf8, gf16}
use Rattle.binary_fields.proofs.LogTables.{tested_tables}
use Rattle.binary_fields.proofs.table.Table.tables.Goals as goal

pub returns-in-Gf8 : goal.returns-in-Gf8
unfolding product_modulo carryless remainder power
returns-in-Gf8 c = rw c.in-Gf8.is (tested_tables gf8 _ _ refl)

pub returns-in-Gf16 : goal.returns-in-Gf16
unfolding product_modulo carryless remainder power
returns-in-Gf16 c = rw c.in-Gf16.is (tested_tables gf16 _ _ refl)
