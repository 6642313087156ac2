-- The rows of the elimination, and what its steps make of them.
use Rattle.std.specs.Prelude.{◌≡◌, ℕ, ◌<◌, List, [], Some, None, Option, ◌≢◌, bit_xor, slice_index, slice_index_or}
use Rattle.fields.specs.Meaning.{FieldMeaning, size}
use Rattle.codes.specs.Words.{CodeMeaning, sum}
use Rattle.erasures.specs.Agreement.{State}
use Rattle.erasures.specs.Elimination.{times, dot, received, Elements, Pivoted}
use Rattle.repair.specs.declared.rows.Row.{Row}

-- what check j sums to where each lost place counts as 0
abbrev pub syndrome_of : CodeMeaning → State → ℕ → ℕ
syndrome_of m state j = sum m.places (λ p. times m.field (m.entry j p) (received (state p)))

abbrev pub no_row : Row
no_row = record { combination = []; sum = 0; place = None }

abbrev pub row_at : List Row → ℕ → Row
row_at rows i = slice_index_or rows i no_row

-- what row i multiplies check j by
abbrev pub cell : List Row → ℕ → ℕ → ℕ
cell rows i j = slice_index (row_at rows i).combination j

-- what row i makes of the syndrome
abbrev pub sum_at : List Row → ℕ → ℕ
sum_at rows i = (row_at rows i).sum

-- the place that row i is assigned to
abbrev pub place_at : List Row → ℕ → Option ℕ
place_at rows i = (row_at rows i).place

-- the numbers of a row are elements
pub record RowElements (f : FieldMeaning) (row : Row) : Type 0 where
  pub combination : Elements f row.combination
  pub sum : row.sum < size f

pub record AllElements (f : FieldMeaning) (rows : List Row) : Type 0 where
  pub each : (i : ℕ) → RowElements f (row_at rows i)

-- check i alone, with its number s of the syndrome, assigned to no place
pub record UnitRow (i s : ℕ) (row : Row) : Type 0 where
  pub one : slice_index row.combination i ≡ 1
  pub zeros : (j : ℕ) → (j ≢ i) → slice_index row.combination j ≡ 0
  pub sum : row.sum ≡ s
  pub place : row.place ≡ None

-- y is the row x, of r checks, times `by`
pub record Scaled (f : FieldMeaning) (r by : ℕ) (x y : Row) : Type 0 where
  pub combination : (j : ℕ) → j < r → slice_index y.combination j ≡ times f by (slice_index x.combination j)
  pub sum : y.sum ≡ times f by x.sum

-- y is the row x with the row z, times `by`, added
pub record Added (f : FieldMeaning) (r by : ℕ) (z x y : Row) : Type 0 where
  pub combination : (j : ℕ) → j < r → slice_index y.combination j ≡ bit_xor (slice_index x.combination j) (times f by (slice_index z.combination j))
  pub sum : y.sum ≡ bit_xor x.sum (times f by z.sum)
  pub place : y.place ≡ x.place

-- the rows ys are xs with row i, times c o, added to each other row o
pub record Cleared (f : FieldMeaning) (r i : ℕ) (c : ℕ → ℕ) (xs ys : List Row) : Type 0 where
  pub same : row_at ys i ≡ row_at xs i
  pub others : (o : ℕ) → o < r → (o ≢ i) → Added f r (c o) (row_at xs i) (row_at xs o) (row_at ys o)
  pub places : (o : ℕ) → place_at ys o ≡ place_at xs o

-- a step at row i, whose number in c is 1 after it, and which is assigned to the place p then
pub record RowPivoted (f : FieldMeaning) (r i : ℕ) (c : ℕ → ℕ) (p : ℕ) (xs ys : List Row) : Type 0 where
  pub by : ℕ
  pub inverse : times f by (c i) ≡ 1
  pub pivoted : Pivoted (times f) r i by c (cell xs) (sum_at xs) (cell ys) (sum_at ys)
  pub here : place_at ys i ≡ Some p
  pub others : (o : ℕ) → (o ≢ i) → place_at ys o ≡ place_at xs o

-- row i, which was assigned to no place, is assigned to the place p, whose column is h
pub record UsedFor (f : FieldMeaning) (r : ℕ) (h : ℕ → ℕ) (p i : ℕ) (xs ys : List Row) : Type 0 where
  pub within : i < r
  pub unused : place_at xs i ≡ None
  pub column : ℕ → ℕ
  pub is : (o : ℕ) → o < r → column o ≡ dot (times f) r (cell xs o) h
  pub step : RowPivoted f r i column p xs ys

-- what comes of the place p: a row is assigned to it, or no row that could be sees it and nothing changes
abbrev pub Used : FieldMeaning → ℕ → (ℕ → ℕ) → ℕ → List Row → List Row → Option ℕ → Type 0
Used f r h p xs ys (Some i) = UsedFor f r h p i xs ys
Used f r h p xs ys None = (ys ≡ xs) × ((i : ℕ) → i < r → place_at xs i ≡ None → dot (times f) r (cell xs i) h ≡ 0)

-- ys is xs with the sum of each of the first n rows at the place that the row is assigned to
pub record Filled (rows : List Row) (n : ℕ) (xs ys : List ℕ) : Type 0 where
  pub used : (i p : ℕ) → i < n → place_at rows i ≡ Some p → slice_index ys p ≡ sum_at rows i
  pub others : (p : ℕ) → ((i : ℕ) → i < n → place_at rows i ≢ Some p) → slice_index ys p ≡ slice_index xs p
