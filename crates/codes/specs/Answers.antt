-- What a code answers to each call, on good arguments and on bad ones.
use Rattle.std.specs.Prelude.{ℕ, if◌then◌else◌, Ok, Err, Result, nat_lt}
use Rattle.faults.specs.declared.Fault.{Fault}
use Rattle.faults.specs.Table.{no_check, no_place, no_message_index}
use Rattle.codes.specs.Words.{CodeMeaning}

-- the answer where j is a check, and 21 where it is none
abbrev pub if_check : {A : Type 0} → CodeMeaning → ℕ → Result A Fault → Result A Fault
if_check m j answer = if nat_lt j m.checks then answer else Err no_check

-- the answer where p is a place, and 22 at p where it is none
abbrev pub if_place : {A : Type 0} → CodeMeaning → ℕ → Result A Fault → Result A Fault
if_place m p answer = if nat_lt p m.places then answer else Err (no_place p)

-- the answer where i is the index of a message symbol, and 23 where it is none
abbrev pub if_index : {A : Type 0} → CodeMeaning → ℕ → Result A Fault → Result A Fault
if_index m i answer = if nat_lt i m.dimension then answer else Err no_message_index

abbrev pub check_answer : CodeMeaning → ℕ → Result ℕ Fault
check_answer m j = if_check m j (Ok j)

abbrev pub place_answer : CodeMeaning → ℕ → Result ℕ Fault
place_answer m p = if_place m p (Ok p)

abbrev pub index_answer : CodeMeaning → ℕ → Result ℕ Fault
index_answer m i = if_index m i (Ok i)

-- 21 where there is no such check, and else as the place is refused
abbrev pub entry_answer : CodeMeaning → ℕ → ℕ → Result ℕ Fault
entry_answer m j p = if_check m j (if_place m p (Ok (m.entry j p)))

abbrev pub message_place_answer : CodeMeaning → ℕ → Result ℕ Fault
message_place_answer m i = if_index m i (Ok (m.message_place i))

-- the generator G in row i and column p
abbrev pub generator_answer : CodeMeaning → (ℕ → ℕ → ℕ) → ℕ → ℕ → Result ℕ Fault
generator_answer m G i p = if_index m i (if_place m p (Ok (G i p)))
