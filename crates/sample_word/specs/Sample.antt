-- The four times extended code over GF(8): eleven places, of which seven are the message, and four checks.
use Rattle.std.specs.Prelude.{◌≡◌, ℕ, ◌<◌, List, [], ◌∷◌, map, length, Some, None, Option, Ok, Result, slice_set}
use Rattle.std.specs.Option.{unwrap_or}
use Rattle.faults.specs.declared.Fault.{Fault}
use Rattle.fields.specs.Meaning.{FieldMeaning, size}
use Rattle.fields.specs.Polynomials.{gf8}
use Rattle.codes.specs.Words.{CodeMeaning, sum, at}
use Rattle.codes.specs.Arrays.{build}
use Rattle.codes.specs.Systematic.{four_times, four_entry, four_generator}

abbrev pub sample : CodeMeaning
sample = four_times gf8

-- the symbol at every place is an element
abbrev pub Elements : List ℕ → Type 0
Elements w = (p : ℕ) → p < sample.places → at w p < size gf8

-- over a field f the symbols xs and the coefficients g are elements, and what is given at the index of each symbol is its coefficient
pub record Coefficients (f : FieldMeaning) (xs : List ℕ) (Gives : ℕ → Result ℕ Fault → Type 0) (g : ℕ → ℕ) : Type 0 where
  pub symbols : (i : ℕ) → i < length xs → at xs i < size f
  pub elements : (i : ℕ) → i < length xs → g i < size f
  pub given : (i : ℕ) → i < length xs → (y : Result ℕ Fault) → Gives i y → y ≡ Ok (g i)

-- r is the sum of the products of the symbols xs and the coefficients that are given for them
abbrev pub IsSumOfProducts : FieldMeaning → List ℕ → (ℕ → Result ℕ Fault → Type 0) → Result ℕ Fault → Type 0
IsSumOfProducts f xs Gives r = (g : ℕ → ℕ) → Coefficients f xs Gives g → r ≡ Ok (sum (length xs) (λ i. f.product (at xs i) (g i)))

-- the symbol at place p of the word of a message: the message times a column of the generator
unfoldable pub symbol_of : List ℕ → ℕ → ℕ
symbol_of m p = sum 7 (λ i. gf8.product (at m i) (four_generator gf8 i p))

-- the word of a message
unfoldable pub encoded : List ℕ → List ℕ
encoded m = build 11 (symbol_of m)

-- what check j sums to
unfoldable pub row_sum : ℕ → List ℕ → ℕ
row_sum j w = sum 11 (λ p. gf8.product (four_entry gf8 j p) (at w p))

-- what the four checks sum to
abbrev pub all_row_sums : List ℕ → List ℕ
all_row_sums w = row_sum 0 w ∷ row_sum 1 w ∷ row_sum 2 w ∷ row_sum 3 w ∷ []

-- a word whose symbol at place 3 is erased
abbrev pub erased : List ℕ → List (Option ℕ)
erased w = slice_set (map Some w) 3 None

-- what is held, with one symbol at each erasure
abbrev pub filled : ℕ → List (Option ℕ) → List ℕ
filled symbol = map (λ o. unwrap_or o symbol)
