-- What is proved of the words of every code, of every array, and of the four times extended code over every field.
use Rattle.std.specs.Prelude.{◌≡◌, ℕ, ◌+◌, ◌<◌, true, List, [], ◌∷◌, ◌≢◌, bit_xor}
use Rattle.fields.specs.Meaning.{FieldMeaning, size}
use Rattle.codes.specs.Words.{CodeMeaning, Word, at}
use Rattle.codes.specs.Systematic.{four_times}
use Rattle.codes.specs.Arrays.{array, array_fits, rows_of}

-- the sum of two lists, place by place
abbrev pub plus : List ℕ → List ℕ → List ℕ
plus [] w = []
plus (x ∷ v) [] = []
plus (x ∷ v) (y ∷ w) = bit_xor x y ∷ plus v w

abbrev pub SumIsWord : CodeMeaning → Type 0
SumIsWord m = (v w : List ℕ) → Word m v → Word m w → Word m (plus v w)

abbrev pub MessageTellsWord : CodeMeaning → Type 0
MessageTellsWord m =
    (v w : List ℕ) → Word m v → Word m w → ((i : ℕ) → i < m.dimension → at v (m.message_place i) ≡ at w (m.message_place i)) → v ≡ w

-- P at each of the n places but a, b and c
abbrev pub ButThree : ℕ → (ℕ → Type 0) → ℕ → ℕ → ℕ → Type 0
ButThree n P a b c = (p : ℕ) → p < n → (p ≢ a) → (p ≢ b) → (p ≢ c) → P p

-- any three columns are independent: a word that is zero outside three places is zero
abbrev pub ThreeIndependent : FieldMeaning → Type 0
ThreeIndependent f =
    (w : List ℕ) → Word (four_times f) w → (a b c : ℕ) → ButThree (size f + 3) (λ p. at w p ≡ 0) a b c
    → (p : ℕ) → p < size f + 3 → at w p ≡ 0

-- so two words that agree outside three places are equal
abbrev pub ThreeTellApart : FieldMeaning → Type 0
ThreeTellApart f =
    (v w : List ℕ) → Word (four_times f) v → Word (four_times f) w
    → (a b c : ℕ) → ButThree (size f + 3) (λ p. at v p ≡ at w p) a b c → v ≡ w

-- where the array fits, its words are just the rows of the words of m
abbrev pub WordsAreRows : CodeMeaning → Type 0
WordsAreRows m =
    array_fits m ≡ true → (u : List ℕ)
    → (Word (array m) u → (v : List ℕ) × Word m v × (u ≡ rows_of m v))
    × ((v : List ℕ) → Word m v → u ≡ rows_of m v → Word (array m) u)
