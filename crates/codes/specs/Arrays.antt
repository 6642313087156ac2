-- The array over a code: a row of bits for each of its places, with the row's parity behind it.
use Rattle.std.specs.Prelude.{ℕ, zero, suc, ◌+◌, ◌-◌, ◌*◌, ◌/◌, ◌%◌, ◌^◌, Bool, if◌then◌else◌, ◌&&◌, List, [], ◌∷◌, Ok, Err, Result, nat_le, nat_lt}
use Rattle.faults.specs.declared.Fault.{Fault}
use Rattle.faults.specs.Table.{array_too_large}
use Rattle.fields.specs.Polynomials.{coefficient, gf2}
use Rattle.codes.specs.Words.{CodeMeaning, sum, at}
use Rattle.codes.specs.Systematic.{unit}

-- bit b of x; the lowest is bit 0
abbrev pub bit : ℕ → ℕ → ℕ
bit = coefficient

abbrev pub array_places : CodeMeaning → ℕ
array_places m = m.places * (m.field.width + 1)

abbrev pub array_checks : CodeMeaning → ℕ
array_checks m = m.places + m.checks * m.field.width

abbrev pub array_dimension : CodeMeaning → ℕ
array_dimension m = m.dimension * m.field.width

-- check t at column c of row i: first a check of ones for each row, then the bits of each check of m
abbrev pub cell_entry : CodeMeaning → ℕ → ℕ → ℕ → ℕ
cell_entry m t i c =
    if nat_lt t m.places then unit t i
    else if nat_lt c m.field.width then bit (m.field.product (m.entry ((t - m.places) / m.field.width) i) (2 ^ c)) ((t - m.places) % m.field.width) else 0

abbrev pub array_entry : CodeMeaning → ℕ → ℕ → ℕ
array_entry m t p = cell_entry m t (p / (m.field.width + 1)) (p % (m.field.width + 1))

abbrev pub array_message_place : CodeMeaning → ℕ → ℕ
array_message_place m i = m.message_place (i / m.field.width) * (m.field.width + 1) + i % m.field.width

-- few enough places and checks
abbrev pub array_fits : CodeMeaning → Bool
array_fits m = nat_le (array_places m) 512 && nat_le (array_checks m) 96

-- the array where it fits, and else the code of no places
abbrev pub array_if : Bool → CodeMeaning → CodeMeaning
array_if fits m = record {
  field = gf2;
  places = if fits then array_places m else 0;
  checks = if fits then array_checks m else 0;
  dimension = if fits then array_dimension m else 0;
  entry = array_entry m;
  message_place = array_message_place m;
}

abbrev pub array : CodeMeaning → CodeMeaning
array m = array_if (array_fits m) m

abbrev pub fits_answer : CodeMeaning → Result (Unit {0}) Fault
fits_answer m = if array_fits m then Ok tt else Err array_too_large

-- what bit b of message symbol i adds to bit c of row r, where G generates m
abbrev pub generated_bit : CodeMeaning → (ℕ → ℕ → ℕ) → ℕ → ℕ → ℕ → ℕ
generated_bit m G t r c = bit (m.field.product (G (t / m.field.width) r) (2 ^ (t % m.field.width))) c

-- the bits of m's generator, with each row's exclusive or
abbrev pub array_generator : CodeMeaning → (ℕ → ℕ → ℕ) → ℕ → ℕ → ℕ
array_generator m G t p =
    let r = p / (m.field.width + 1) in
    let c = p % (m.field.width + 1) in
    if nat_lt c m.field.width then generated_bit m G t r c else sum m.field.width (generated_bit m G t r)

-- column c of the row of a symbol: its bit c, and behind its bits their exclusive or
abbrev pub row_bit : ℕ → ℕ → ℕ → ℕ
row_bit w x c = if nat_lt c w then bit x c else sum w (bit x)

-- g 0, g 1, .. g (n - 1)
abbrev pub build : ℕ → (ℕ → ℕ) → List ℕ
build zero g = []
build (suc n) g = g 0 ∷ build n (λ i. g (suc i))

-- the rows of the symbols of v, one after another
abbrev pub rows_of : CodeMeaning → List ℕ → List ℕ
rows_of m v = build (array_places m) (λ p. row_bit m.field.width (at v (p / (m.field.width + 1))) (p % (m.field.width + 1)))
