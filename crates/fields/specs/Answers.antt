-- What a field answers to each call, on good operands and on bad ones.
use Rattle.std.specs.Prelude.{ℕ, zero, suc, ◌+◌, Bool, if◌then◌else◌, Ok, Err, Result, ◌==◌, bit_xor, nat_eq, nat_lt}
use Rattle.faults.specs.declared.Fault.{Fault}
use Rattle.faults.specs.Table.{no_element, no_inverse, no_roll}
use Rattle.fields.specs.Meaning.{FieldMeaning, size}

-- the answer where x is an element, and 11 where it is none
abbrev pub if_element : {A : Type 0} → FieldMeaning → ℕ → Result A Fault → Result A Fault
if_element f x answer = if nat_lt x (size f) then answer else Err no_element

abbrev pub element_answer : FieldMeaning → ℕ → Result ℕ Fault
element_answer f x = if_element f x (Ok x)

abbrev pub sum_answer : FieldMeaning → ℕ → ℕ → Result ℕ Fault
sum_answer f x y = if_element f x (if_element f y (Ok (bit_xor x y)))

abbrev pub product_answer : FieldMeaning → ℕ → ℕ → Result ℕ Fault
product_answer f x y = if_element f x (if_element f y (Ok (f.product x y)))

-- the number below n that passes a test that only one passes; 0 where none does
abbrev pub the_one_below : ℕ → (ℕ → Bool) → ℕ
the_one_below zero test = 0
the_one_below (suc n) test = if test n then n else the_one_below n test

-- the element whose product with x is 1
unfoldable pub inverse : FieldMeaning → ℕ → ℕ
inverse f x = the_one_below (size f) (λ y. nat_eq (f.product x y) 1)

-- the answer where x is an element but 0, 11 where it is none, and 12 where it is 0
abbrev pub if_nonzero : {A : Type 0} → FieldMeaning → ℕ → Result A Fault → Result A Fault
if_nonzero f x answer = if_element f x (if x == 0 then Err no_inverse else answer)

abbrev pub nonzero_answer : FieldMeaning → ℕ → Result ℕ Fault
nonzero_answer f x = if_nonzero f x (Ok x)

abbrev pub inverse_answer : FieldMeaning → ℕ → Result ℕ Fault
inverse_answer f x = if_nonzero f x (Ok (inverse f x))

-- the answer where i numbers an element but 0, and 13 where it does not
abbrev pub if_roll_index : {A : Type 0} → FieldMeaning → ℕ → Result A Fault → Result A Fault
if_roll_index f i answer = if nat_lt (i + 1) (size f) then answer else Err no_roll

abbrev pub roll_index_answer : FieldMeaning → ℕ → Result ℕ Fault
roll_index_answer f i = if_roll_index f i (Ok i)

abbrev pub roll_answer : FieldMeaning → ℕ → Result ℕ Fault
roll_answer f i = if_roll_index f i (Ok (f.roll i))
