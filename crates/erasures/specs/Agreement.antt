-- What the places of a code hold, and the words that agree with it.
use Rattle.std.specs.Prelude.{◌≡◌, ℕ, if◌then◌else◌, List, Some, None, Option, ◌≢◌, nat_lt, slice_index_or}
use Rattle.fields.specs.Meaning.{size}
use Rattle.codes.specs.Words.{CodeMeaning, Word, at}

-- the symbol of each place that is held
abbrev pub State : Type 0
State = ℕ → Option ℕ

-- a symbol counts where it is one of the q elements
abbrev pub element_of : ℕ → Option ℕ → Option ℕ
element_of q None = None
element_of q (Some v) = if nat_lt v q then Some v else None

-- A cell is held where its place is one of the code's and its symbol one of the field's, and lost otherwise.
unfoldable pub held : CodeMeaning → List (Option ℕ) → State
held m cells p = if nat_lt p m.places then element_of (size m.field) (slice_index_or cells p None) else None

-- which place holds which symbol
abbrev pub Holding : Type 1
Holding = ℕ → ℕ → Type 0

abbrev pub holding : State → Holding
holding state p v = state p ≡ Some v

-- w has at every held place the symbol that is held
abbrev pub Agrees : Holding → List ℕ → Type 0
Agrees holds w = (p v : ℕ) → holds p v → at w p ≡ v

-- w has at some held place another symbol than the one that is held
abbrev pub Differs : Holding → List ℕ → Type 0
Differs holds w = (p : ℕ) × ((v : ℕ) × holds p v × (at w p ≢ v))

-- no word agrees with what is held
abbrev pub NoWordAgrees : CodeMeaning → Holding → Type 0
NoWordAgrees m holds = (w : List ℕ) → Word m w → Agrees holds w → ⊥

-- the word w agrees with what is held, and every other word differs at a held place
pub record TheOneWord (m : CodeMeaning) (holds : Holding) (w : List ℕ) : Type 0 where
  pub word : Word m w
  pub agrees : Agrees holds w
  pub others_differ : (v : List ℕ) → Word m v → (v ≢ w) → Differs holds v

-- two words that are not the same agree with what is held
pub record TwoWords (m : CodeMeaning) (holds : Holding) : Type 0 where
  pub one : List ℕ
  pub other : List ℕ
  pub one_word : Word m one
  pub other_word : Word m other
  pub one_agrees : Agrees holds one
  pub other_agrees : Agrees holds other
  pub apart : one ≢ other
