-- What the pairs over a field answer beside what every field answers.
use Rattle.std.specs.Prelude.{ℕ, if◌then◌else◌, Ok, Err, Result, bit_xor, nat_le}
use Rattle.faults.specs.declared.Fault.{Fault}
use Rattle.faults.specs.Table.{no_doubling}
use Rattle.fields.specs.Meaning.{FieldMeaning}
use Rattle.fields.specs.Answers.{if_element}
use Rattle.fields.specs.Pairs.{norm}

-- 14 where the field has more than 4 bits
abbrev pub doubles_answer : FieldMeaning → Result (Unit {0}) Fault
doubles_answer f = if nat_le f.width 4 then Ok tt else Err no_doubling

-- the norm of a t + b
abbrev pub norm_answer : FieldMeaning → ℕ → ℕ → Result ℕ Fault
norm_answer f a b = if_element f a (if_element f b (Ok (norm bit_xor f.product f.c a b)))
