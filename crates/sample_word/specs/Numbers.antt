-- The numbers that texts of one to three decimal digits write.
use Rattle.std.specs.Prelude.{ℕ, ◌+◌, ◌-◌, ◌*◌, Bool, if◌then◌else◌, ◌&&◌, List, [], ◌∷◌, Some, None, Option, nat_le}

-- a byte from low to high
abbrev pub within : ℕ → ℕ → ℕ → Bool
within low high b = nat_le low b && nat_le b high

-- the digits 0 to 9 are the bytes 48 to 57
abbrev pub digit : ℕ → Bool
digit = within 48 57

-- a digit but 0
abbrev pub leads : ℕ → Bool
leads = within 49 57

-- one to three digits, with no 0 in front of another
abbrev pub number_of : List ℕ → Option ℕ
number_of [] = None
number_of (a ∷ []) = if digit a then Some (a - 48) else None
number_of (a ∷ b ∷ []) = if leads a && digit b then Some ((a - 48) * 10 + (b - 48)) else None
number_of (a ∷ b ∷ c ∷ []) = if leads a && digit b && digit c then Some ((a - 48) * 100 + (b - 48) * 10 + (c - 48)) else None
number_of (a ∷ b ∷ c ∷ d ∷ rest) = None
