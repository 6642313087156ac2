-- The fields of polynomials over one bit, modulo a polynomial of degree w.
-- A number stands for the polynomial whose coefficients are its binary digits.
use Rattle.std.specs.Prelude.{ℕ, zero, suc, ◌+◌, ◌*◌, ◌/◌, ◌%◌, ◌^◌, bit_xor}
use Rattle.fields.specs.Meaning.{FieldMeaning}

-- the coefficient of X ^ i in p
abbrev pub coefficient : ℕ → ℕ → ℕ
coefficient p i = p / 2 ^ i % 2

-- the carry-less product of x and y, a polynomial of at most n terms: the sum of x times each term of y
unfoldable pub carryless : ℕ → ℕ → ℕ → ℕ
carryless zero x y = 0
carryless (suc n) x y = bit_xor (carryless n x y) (coefficient y n * (x * 2 ^ n))

-- the remainder of p, a polynomial of at most w + n terms, by m, one of degree w: long division from the highest term
unfoldable pub remainder : ℕ → ℕ → ℕ → ℕ → ℕ
remainder w m zero p = p
remainder w m (suc n) p = remainder w m n (bit_xor p (coefficient p (w + n) * (m * 2 ^ n)))

-- the product of two polynomials of at most w terms, modulo m, one of degree w
unfoldable pub product_modulo : ℕ → ℕ → ℕ → ℕ → ℕ
product_modulo w m x y = remainder w m w (carryless w x y)

-- x to the power i
unfoldable pub power : (ℕ → ℕ → ℕ) → ℕ → ℕ → ℕ
power product x zero = 1
power product x (suc i) = product x (power product x i)

-- the polynomials modulo m, one of degree w; roll i is X to the power i
abbrev pub polynomials : ℕ → ℕ → ℕ → FieldMeaning
polynomials w m c = record { width = w; product = product_modulo w m; roll = power (product_modulo w m) 2; c = c }

-- X³ + X + 1
abbrev pub gf8 : FieldMeaning
gf8 = polynomials 3 0b1011 1

-- X⁴ + X + 1
abbrev pub gf16 : FieldMeaning
gf16 = polynomials 4 0b10011 8

-- X⁸ + X⁴ + X³ + X² + 1
abbrev pub gf256 : FieldMeaning
gf256 = polynomials 8 0b100011101 32

-- the numbers 0 and 1
abbrev pub gf2 : FieldMeaning
gf2 = record { width = 1; product = λ x y. x * y; roll = λ i. 1; c = 1 }
