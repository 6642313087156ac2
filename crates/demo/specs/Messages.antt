-- The message of a run.
use Rattle.std.specs.Prelude.{ℕ, List, [], ◌∷◌, length, if◌then◌else◌, Ok, Result, ◌==◌}
use Rattle.faults.specs.declared.Fault.{Fault}
use Rattle.sample_word.specs.Answers.{read_answer}

-- the message that the arguments write, or the sample where there are none
abbrev pub message_answer : {X : Type 0} → (X → List ℕ) → List X → Result (List ℕ) Fault
message_answer text xs = if length xs == 0 then Ok (6 ∷ 5 ∷ 4 ∷ 6 ∷ 7 ∷ 4 ∷ 3 ∷ []) else read_answer text xs
