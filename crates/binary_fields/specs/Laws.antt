-- The laws of the table fields and of the field of 256 elements, which their impls name.
use Rattle.fields.specs.Meaning.{FieldLaws}
use Rattle.fields.specs.Polynomials.{gf256}
use Rattle.fields.proofs.PolynomialLaws.{polynomial_laws, gf8_computed, gf16_computed, gf256_computed}
use Rattle.binary_fields.specs.declared.table.Table.{Table}
use Rattle.binary_fields.specs.declared.table.Table.TheVariants.{Gf8, Gf16}
use Rattle.binary_fields.specs.Tables.{table_meaning}

pub table_laws : (t : Table) → FieldLaws (table_meaning t)
table_laws Gf8 = polynomial_laws 3 0b1011 1 gf8_computed
table_laws Gf16 = polynomial_laws 4 0b10011 8 gf16_computed

pub gf256_laws : FieldLaws gf256
gf256_laws = polynomial_laws 8 0x11d 32 gf256_computed
