-- Elimination over combined checks: what its rows are, and what each step keeps.
use Rattle.std.specs.Prelude.{◌≡◌, ℕ, ◌%◌, ◌^◌, ◌<◌, Bool, true, false, ◌⊎◌, List, Some, None, Option, ◌≢◌, bit_xor, slice_index, unwrap_or}
use Rattle.fields.specs.Meaning.{FieldMeaning, size}
use Rattle.codes.specs.Words.{sum}
use Rattle.erasures.specs.Agreement.{State}

-- the product on all numbers: that of their remainders by q
unfoldable pub times : FieldMeaning → ℕ → ℕ → ℕ
times f x y = f.product (x % size f) (y % size f)

-- the laws that such a product keeps with no condition
pub record Times (width : ℕ) (mul : ℕ → ℕ → ℕ) : Type 0 where
  pub below : (x y : ℕ) → mul x y < 2 ^ width
  pub commutes : (x y : ℕ) → mul x y ≡ mul y x
  pub associates : (x y z : ℕ) → mul (mul x y) z ≡ mul x (mul y z)
  pub distributes : (x y z : ℕ) → mul x (bit_xor y z) ≡ bit_xor (mul x y) (mul x z)
  pub neutral : (x : ℕ) → x < 2 ^ width → mul 1 x ≡ x

-- a row times a column, of r elements
abbrev pub dot : (ℕ → ℕ → ℕ) → ℕ → (ℕ → ℕ) → (ℕ → ℕ) → ℕ
dot mul r row column = sum r (λ j. mul (row j) (column j))

abbrev pub Elements : FieldMeaning → List ℕ → Type 0
Elements f xs = (k : ℕ) → slice_index xs k < size f

-- x is zero at every held place of the first n, and its sum with the checks' columns h is the syndrome s
pub record Corrects (width : ℕ) (mul : ℕ → ℕ → ℕ) (r n : ℕ) (h : ℕ → ℕ → ℕ) (s : ℕ → ℕ) (state : State) (x : ℕ → ℕ) : Type 0 where
  pub elements : (p : ℕ) → p < n → x p < 2 ^ width
  pub zero_where_held : (p v : ℕ) → p < n → state p ≡ Some v → x p ≡ 0
  pub gives : (j : ℕ) → j < r → sum n (λ p. mul (h p j) (x p)) ≡ s j

-- no row is assigned to the place p, and the rows that are assigned to none are zero there
abbrev pub Undetermined : (ℕ → ℕ → ℕ) → ℕ → (ℕ → ℕ → ℕ) → (ℕ → ℕ → ℕ) → (ℕ → Option ℕ) → ℕ → Type 0
Undetermined mul r h e pivot p = (i : ℕ) → i < r → (pivot i ≢ Some p) × (pivot i ≡ None → dot mul r (e i) (h p) ≡ 0)

-- Row i of e is a combination of the checks, whose columns are h, t i is the same combination of the syndrome s, and
-- pivot i is the place that row i is assigned to. So it is when the first `done` places are gone through.
pub record Reduced (width : ℕ) (mul : ℕ → ℕ → ℕ) (r : ℕ) (h : ℕ → ℕ → ℕ) (s : ℕ → ℕ) (state : State) (done : ℕ) (e : ℕ → ℕ → ℕ) (t : ℕ → ℕ) (pivot : ℕ → Option ℕ) : Type 0 where
  -- no column but the zero column is zero in every combination
  pub regular : (y : ℕ → ℕ) → ((j : ℕ) → j < r → y j < 2 ^ width) → ((i : ℕ) → i < r → dot mul r (e i) y ≡ 0) → (j : ℕ) → j < r → y j ≡ 0
  pub combined : (i : ℕ) → i < r → t i ≡ dot mul r (e i) s
  -- a place that has a row is lost, and its column is a unit column
  pub seen : (i p : ℕ) → i < r → pivot i ≡ Some p → (p < done) × (state p ≡ None)
  pub one : (i p : ℕ) → i < r → pivot i ≡ Some p → dot mul r (e i) (h p) ≡ 1
  pub zeros : (i p : ℕ) → i < r → pivot i ≡ Some p → (o : ℕ) → o < r → (o ≢ i) → dot mul r (e o) (h p) ≡ 0
  -- every lost place has a row, or no row tells anything of it
  pub placed : (p : ℕ) → p < done → state p ≡ None → ((i : ℕ) × (i < r) × (pivot i ≡ Some p)) ⊎ Undetermined mul r h e pivot p

-- one step at row i: it is scaled by `by`, and then added to each other row o, times c o
pub record Pivoted (mul : ℕ → ℕ → ℕ) (r i by : ℕ) (c : ℕ → ℕ) (e : ℕ → ℕ → ℕ) (t : ℕ → ℕ) (e' : ℕ → ℕ → ℕ) (t' : ℕ → ℕ) : Type 0 where
  pub at : (j : ℕ) → j < r → e' i j ≡ mul by (e i j)
  pub at_t : t' i ≡ mul by (t i)
  pub off : (o : ℕ) → o < r → (o ≢ i) → (j : ℕ) → j < r → e' o j ≡ bit_xor (e o j) (mul (c o) (e' i j))
  pub off_t : (o : ℕ) → o < r → (o ≢ i) → t' o ≡ bit_xor (t o) (mul (c o) (t' i))

-- what is received at a place: its symbol, and 0 where it is lost
abbrev pub received : Option ℕ → ℕ
received symbol = unwrap_or symbol 0

-- whether every lost place below `done` has a row, or there is one that has none
abbrev pub Determined : ℕ → State → ℕ → (ℕ → Option ℕ) → Option ℕ → Type 0
Determined r state done pivot None = (p : ℕ) → p < done → state p ≡ None → (i : ℕ) × (i < r) × (pivot i ≡ Some p)
Determined r state done pivot (Some p) = (p < done) × (state p ≡ None) × ((i : ℕ) → i < r → pivot i ≢ Some p)

-- the elimination when the first `done` places are gone through; `undetermined` is a lost place that has no row, if there is one
pub record Eliminated (f : FieldMeaning) (r : ℕ) (h : ℕ → ℕ → ℕ) (s : ℕ → ℕ) (state : State) (done : ℕ) (e : ℕ → ℕ → ℕ) (t : ℕ → ℕ) (pivot : ℕ → Option ℕ) (undetermined : Option ℕ) : Type 0 where
  pub reduced : Reduced f.width (times f) r h s state done e t pivot
  pub lost : Determined r state done pivot undetermined

-- whether a row that is assigned to no place has a sum other than 0
abbrev pub Contradicted : ℕ → (ℕ → ℕ) → (ℕ → Option ℕ) → Bool → Type 0
Contradicted r t pivot true = (i : ℕ) × (i < r) × (pivot i ≡ None) × (t i ≢ 0)
Contradicted r t pivot false = (i : ℕ) → i < r → pivot i ≡ None → t i ≡ 0
