-- The table of faults: the number of each case, the printed name of each layer, and each fault by a name.
use Rattle.std.specs.Prelude.{ℕ, List, ◌∷◌, ◌++◌, Some, None, codes, decimal, Option}
use Rattle.faults.specs.declared.FieldCause.{FieldCause}
use Rattle.faults.specs.declared.FieldCause.TheVariants.{Operand, InverseOfZero, Roll, NoDoubling}
use Rattle.faults.specs.declared.CodeCause.{CodeCause}
use Rattle.faults.specs.declared.CodeCause.TheVariants.{Check, Place, MessageIndex, ParityLength, ArraySize}
use Rattle.faults.specs.declared.SheetCause.{SheetCause}
use Rattle.faults.specs.declared.SheetCause.TheVariants.{Held, Lost, Length, NoWord, SeveralWords}
use Rattle.faults.specs.declared.LineCause.{LineCause}
use Rattle.faults.specs.declared.LineCause.TheVariants.{TooLong, Command, FieldCount, NotANumber, Buffer}
use Rattle.faults.specs.declared.Layer.{Layer}
use Rattle.faults.specs.declared.Layer.TheVariants.{Field, Code, Sheet, Line}
use Rattle.faults.specs.declared.Fault.{Fault}

abbrev pub field_number : FieldCause → ℕ
field_number Operand = 11
field_number InverseOfZero = 12
field_number Roll = 13
field_number NoDoubling = 14

abbrev pub code_number : CodeCause → ℕ
code_number Check = 21
code_number Place = 22
code_number MessageIndex = 23
code_number ParityLength = 24
code_number ArraySize = 25

abbrev pub sheet_number : SheetCause → ℕ
sheet_number Held = 31
sheet_number Lost = 32
sheet_number Length = 33
sheet_number NoWord = 41
sheet_number SeveralWords = 42

abbrev pub line_number : LineCause → ℕ
line_number TooLong = 51
line_number Command = 52
line_number FieldCount = 53
line_number NotANumber = 54
line_number Buffer = 55

abbrev pub layer_number : Layer → ℕ
layer_number (Field cause) = field_number cause
layer_number (Code cause) = code_number cause
layer_number (Sheet cause) = sheet_number cause
layer_number (Line cause) = line_number cause

abbrev pub number_of : Fault → ℕ
number_of fault = layer_number fault.layer

abbrev pub layer_name : Layer → List ℕ
layer_name (Field cause) = codes "field"
layer_name (Code cause) = codes "code"
layer_name (Sheet cause) = codes "sheet"
layer_name (Line cause) = codes "line"

abbrev pub plain : Layer → Fault
plain layer = record { layer = layer; place = None }

abbrev pub at_place : Layer → ℕ → Fault
at_place layer p = record { layer = layer; place = Some p }

-- the same fault, told at a place
abbrev pub told_at : Fault → ℕ → Fault
told_at fault p = at_place fault.layer p

-- the last field of a refusal
abbrev pub place_text : Option ℕ → List ℕ
place_text (Some p) = decimal p
place_text None = codes "-"

-- the line that is printed for a fault: its fields parted by tabs, with no newline
abbrev pub refusal : Fault → List ℕ
refusal fault =
    codes "no" ++ (9 ∷ (layer_name fault.layer ++ (9 ∷ (decimal (number_of fault) ++ (9 ∷ place_text fault.place)))))

-- 11, an operand or a value of q or more; a lay tells its index, a put its place
abbrev pub no_element : Fault
no_element = plain (Field Operand)

abbrev pub no_element_at : ℕ → Fault
no_element_at = at_place (Field Operand)

-- 12, the inverse of 0
abbrev pub no_inverse : Fault
no_inverse = plain (Field InverseOfZero)

-- 13, a roll of q - 1 or more
abbrev pub no_roll : Fault
no_roll = plain (Field Roll)

-- 14, a pair field over a field of more than 4 bits
abbrev pub no_doubling : Fault
no_doubling = plain (Field NoDoubling)

-- 21, a check of r or more
abbrev pub no_check : Fault
no_check = plain (Code Check)

-- 22, a place of n or more, which it tells
abbrev pub no_place : ℕ → Fault
no_place = at_place (Code Place)

-- 23, a message index of k or more
abbrev pub no_message_index : Fault
no_message_index = plain (Code MessageIndex)

-- 24, a parity length outside 2 to 512
abbrev pub parity_length : Fault
parity_length = plain (Code ParityLength)

-- 25, an array of too many places or checks
abbrev pub array_too_large : Fault
array_too_large = plain (Code ArraySize)

-- 31, a place that is held, which it tells
abbrev pub place_held : ℕ → Fault
place_held = at_place (Sheet Held)

-- 32, a place that is lost, which it tells
abbrev pub place_lost : ℕ → Fault
place_lost = at_place (Sheet Lost)

-- 33, a length other than k
abbrev pub wrong_length : Fault
wrong_length = plain (Sheet Length)

-- 41, no word agrees with what is held
abbrev pub no_word : Fault
no_word = plain (Sheet NoWord)

-- 42, two or more words agree with what is held
abbrev pub several_words : Fault
several_words = plain (Sheet SeveralWords)

-- 51, a line of over 2,100 bytes
abbrev pub line_too_long : Fault
line_too_long = plain (Line TooLong)

-- 52, an unknown first field
abbrev pub unknown_command : Fault
unknown_command = plain (Line Command)

-- 53, a wrong number of fields
abbrev pub field_count : Fault
field_count = plain (Line FieldCount)

-- 54, a field that is not a number, whose index it tells
abbrev pub not_a_number : ℕ → Fault
not_a_number = at_place (Line NotANumber)

-- 55, an answer buffer of under 24 bytes
abbrev pub small_buffer : Fault
small_buffer = plain (Line Buffer)
