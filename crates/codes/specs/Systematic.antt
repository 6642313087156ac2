-- The codes whose first k places are the message: single parity, and the four times extended code.
use Rattle.std.specs.Prelude.{ℕ, zero, suc, ◌+◌, ◌-◌, if◌then◌else◌, ◌==◌, nat_lt}
use Rattle.fields.specs.Meaning.{FieldMeaning, size}
use Rattle.codes.specs.Words.{CodeMeaning}

-- 1 where i is j, and 0 elsewhere
abbrev pub unit : ℕ → ℕ → ℕ
unit j i = if j == i then 1 else 0

-- single parity: n places, one check of ones, the message in all places but the last
abbrev pub parity : FieldMeaning → ℕ → CodeMeaning
parity f n = record { field = f; places = n; checks = 1; dimension = n - 1; entry = λ j p. 1; message_place = λ i. i }

-- the identity, and a column of ones
abbrev pub parity_generator : ℕ → ℕ → ℕ → ℕ
parity_generator n i p = if nat_lt p (n - 1) then unit i p else 1

-- 1, x, x x, x x x
abbrev pub power_of : FieldMeaning → ℕ → ℕ → ℕ
power_of f zero x = 1
power_of f (suc zero) x = x
power_of f (suc (suc zero)) x = f.product x x
power_of f (suc (suc (suc j))) x = f.product (f.product x x) x

-- the point of the place p, one of the first q - 1
abbrev pub point : FieldMeaning → ℕ → ℕ
point f p = f.roll (size f - 2 - p)

-- a column of powers for each point, and then the four unit columns
abbrev pub four_entry : FieldMeaning → ℕ → ℕ → ℕ
four_entry f j p = if nat_lt p (size f - 1) then power_of f j (point f p) else unit j (p - (size f - 1))

abbrev pub four_times : FieldMeaning → CodeMeaning
four_times f = record { field = f; places = size f + 3; checks = 4; dimension = size f - 1; entry = four_entry f; message_place = λ i. i }

-- the identity, and the columns of the points transposed
abbrev pub four_generator : FieldMeaning → ℕ → ℕ → ℕ
four_generator f i p = if nat_lt p (size f - 1) then unit i p else power_of f (p - (size f - 1)) (point f i)
