-- The two table fields, and what their tables hold.
use Rattle.std.specs.Prelude.{List, ◌≡◌, ℕ, ◌+◌, ◌-◌, ◌*◌, ◌<◌, length, get_or}
use Rattle.fields.specs.Meaning.{FieldMeaning, size}
use Rattle.fields.specs.Polynomials.{gf8, gf16}
use Rattle.binary_fields.specs.declared.table.Table.{Table}
use Rattle.binary_fields.specs.declared.table.Table.TheVariants.{Gf8, Gf16}

abbrev pub table_meaning : Table → FieldMeaning
table_meaning Gf8 = gf8
table_meaning Gf16 = gf16

-- logs x is an i at which roll i is x, and powers hold the roll twice over
pub record IsLogTables (f : FieldMeaning) (logs powers : List ℕ) : Type 0 where
  pub log_count : length logs ≡ size f
  pub power_count : length powers ≡ 2 * (size f - 1)
  pub log_below : (x : ℕ) → x < size f → get_or logs x 0 + 1 < size f
  pub log_is : (x : ℕ) → x < size f → (x ≡ 0 → ⊥) → f.roll (get_or logs x 0) ≡ x
  pub power_is : (i : ℕ) → i < 2 * (size f - 1) → get_or powers i 0 ≡ f.roll i
