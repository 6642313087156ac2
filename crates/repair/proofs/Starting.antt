-- The rows that the elimination starts from.
use Rattle.std.proofs.Common.{ℕ, zero, suc, replicate, pow_pos}
use Rattle.fields.specs.Meaning.{FieldMeaning}
use Rattle.repair.specs.declared.rows.Row.{Row}
use Rattle.repair.specs.Rows.{row_at, RowElements, AllElements}

-- copies of a row of elements are rows of elements, and so is what stands where there is no row
pub repeated_elements : (f : FieldMeaning) (row : Row) (n : ℕ) → RowElements f row → AllElements f (replicate n row)
repeated_elements f row n E = record { each = at n }
  where
    at : (n i : ℕ) → RowElements f (row_at (replicate n row) i)
    at zero i = record { combination = λ j. pow_pos f.width; sum = pow_pos f.width }
    at (suc n) zero = E
    at (suc n) (suc i) = at n i
