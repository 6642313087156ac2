-- What the calls answer, on good input and on bad.
use Rattle.std.specs.Prelude.{ℕ, ◌+◌, Bool, if◌then◌else◌, List, [], ◌∷◌, map, length, is_some, Ok, Err, Result, ◌==◌, nat_lt}
use Rattle.std.specs.Option.{unwrap_or}
use Rattle.faults.specs.declared.Fault.{Fault}
use Rattle.faults.specs.Table.{no_element_at, wrong_length, not_a_number}
use Rattle.sample_word.specs.declared.Demonstration.{Demonstration}
use Rattle.sample_word.specs.Sample.{encoded, erased}
use Rattle.sample_word.specs.Numbers.{number_of}

-- the answer where each item passes the test, and else the refusal of the first that fails, at its index, counted from i
abbrev pub if_all : {X A : Type 0} → (X → Bool) → (ℕ → Fault) → ℕ → List X → Result A Fault → Result A Fault
if_all test refusal i [] answer = answer
if_all test refusal i (x ∷ xs) answer = if test x then if_all test refusal (i + 1) xs answer else Err (refusal i)

-- the answer where there are seven, and else 33
abbrev pub if_seven : {X A : Type 0} → List X → Result A Fault → Result A Fault
if_seven xs answer = if length xs == 7 then answer else Err wrong_length

-- the value where the call is granted, and its refusal where it is not
abbrev pub then_give : {X A : Type 0} → Result X Fault → A → Result A Fault
then_give (Ok x) value = Ok value
then_give (Err fault) value = Err fault

-- seven symbols, each below 8; 11 tells the first that is not
abbrev pub accept_answer : List ℕ → Result (Unit {0}) Fault
accept_answer m = if_seven m (if_all (λ x. nat_lt x 8) no_element_at 0 m (Ok tt))

abbrev pub encode_answer : List ℕ → Result (List ℕ) Fault
encode_answer m = then_give (accept_answer m) (encoded m)

-- the word w is laid out, its symbol at place 3 is erased and worked back, and every check sums to zero
abbrev pub demonstration : List ℕ → Demonstration
demonstration w = record { word = w; received = erased w; restored = w; row_sums = 0 ∷ 0 ∷ 0 ∷ 0 ∷ [] }

-- refused as the word is
abbrev pub demonstrate_answer : List ℕ → Result Demonstration Fault
demonstrate_answer m = then_give (encode_answer m) (demonstration (encoded m))

-- the number of each text; 54 tells the first, counted from 1, that writes none
abbrev pub numbers_answer : List (List ℕ) → Result (List ℕ) Fault
numbers_answer texts = if_all (λ t. is_some (number_of t)) not_a_number 1 texts (Ok (map (λ t. unwrap_or (number_of t) 0) texts))

-- the numbers of seven things that hold texts
abbrev pub read_answer : {X : Type 0} → (X → List ℕ) → List X → Result (List ℕ) Fault
read_answer text xs = if_seven xs (numbers_answer (map text xs))
