-- What a code means: its words, and where a word has its message.
use Rattle.std.specs.Prelude.{◌≡◌, ℕ, zero, suc, ◌<◌, ◌≤◌, List, length, bit_xor, slice_index}
use Rattle.fields.specs.Meaning.{FieldMeaning, FieldLaws, size}

pub record CodeMeaning : Type 0 where
  pub field : FieldMeaning
  -- n, r and k
  pub places : ℕ
  pub checks : ℕ
  pub dimension : ℕ
  -- what a check multiplies the symbol at a place by
  pub entry : ℕ → ℕ → ℕ
  -- where a word has the symbol of its message that has this index
  pub message_place : ℕ → ℕ

-- the exclusive or of f 0, f 1, .. f (n - 1)
abbrev pub sum : ℕ → (ℕ → ℕ) → ℕ
sum zero f = 0
sum (suc n) f = bit_xor (sum n f) (f n)

abbrev pub at : List ℕ → ℕ → ℕ
at w p = slice_index w p

-- n elements of the field at which every check sums to zero
pub record Word (m : CodeMeaning) (w : List ℕ) : Type 0 where
  pub long : length w ≡ m.places
  pub elements : (p : ℕ) → p < m.places → at w p < size m.field
  pub checked : (j : ℕ) → j < m.checks → sum m.places (λ p. m.field.product (m.entry j p) (at w p)) ≡ 0

-- k elements of the field
pub record Message (m : CodeMeaning) (x : List ℕ) : Type 0 where
  pub long : length x ≡ m.dimension
  pub elements : (i : ℕ) → i < m.dimension → at x i < size m.field

-- x is the message of the word w
abbrev pub Carries : CodeMeaning → List ℕ → List ℕ → Type 0
Carries m w x = (i : ℕ) → i < m.dimension → at w (m.message_place i) ≡ at x i

pub record CodeLaws (m : CodeMeaning) : Type 0 where
  pub field_laws : FieldLaws m.field
  pub few_places : m.places ≤ 512
  pub few_checks : m.checks ≤ 96
  pub entries : (j p : ℕ) → j < m.checks → p < m.places → m.entry j p < size m.field
  pub within : (i : ℕ) → i < m.dimension → m.message_place i < m.places
  pub distinct : (i j : ℕ) → i < m.dimension → j < m.dimension → m.message_place i ≡ m.message_place j → i ≡ j
  -- every message stands in a word, and in only one
  pub stands : (x : List ℕ) → Message m x → (w : List ℕ) × Word m w × Carries m w x
  pub stands_once : (x v w : List ℕ) → Message m x → Word m v → Carries m v x → Word m w → Carries m w x → v ≡ w

-- G has a row for each symbol of a message and a column for each place, and every word is its message times G
pub record Generates (m : CodeMeaning) (G : ℕ → ℕ → ℕ) : Type 0 where
  pub elements : (i p : ℕ) → i < m.dimension → p < m.places → G i p < size m.field
  pub every_word : (w : List ℕ) → Word m w → (p : ℕ) → p < m.places
      → at w p ≡ sum m.dimension (λ i. m.field.product (at w (m.message_place i)) (G i p))
