-- What the code and its field answer to the calls that are made here.
use Rattle.std.proofs.Common.{◌≡◌, ℕ, ◌<◌, Ok, sym, subst, arith}
use Rattle.std.proofs.lemmas.Grind.{common_steps}
use Rattle.fields.specs.Meaning.{FieldLaws}
use Rattle.fields.specs.Polynomials.{gf8}
use Rattle.fields.proofs.PolynomialLaws.{polynomial_laws, gf8_computed}
use Rattle.binary_fields.specs.declared.table.Table.{Table}
use Rattle.binary_fields.specs.declared.table.Table.TheVariants.{Gf8}
use Rattle.binary_fields.specs.Tables.{table_meaning}
use Rattle.codes.specs.Answers.{entry_answer, generator_answer}
use Rattle.codes.specs.Systematic.{four_times, four_entry, four_generator}

-- ---- the code over the field t

pub entry_is : (t : Table) (j p : ℕ) → t ≡ Gf8 → j < 4 → p < 11 → entry_answer (four_times (table_meaning t)) j p ≡ Ok (four_entry gf8 j p)
entry_is t j p e hj hp = subst (λ (t : Table). entry_answer (four_times (table_meaning t)) j p ≡ Ok (four_entry gf8 j p)) (sym e) (grind (arith, common_steps))

pub generator_is : (t : Table) (i p : ℕ) → t ≡ Gf8 → i < 7 → p < 11
    → generator_answer (four_times (table_meaning t)) (four_generator (table_meaning t)) i p ≡ Ok (four_generator gf8 i p)
generator_is t i p e hi hp =
    subst (λ (t : Table). generator_answer (four_times (table_meaning t)) (four_generator (table_meaning t)) i p ≡ Ok (four_generator gf8 i p)) (sym e) (grind (arith, common_steps))

-- ---- a field that is GF(8)

pub gf8_laws : FieldLaws gf8
gf8_laws = polynomial_laws 3 0b1011 1 gf8_computed
