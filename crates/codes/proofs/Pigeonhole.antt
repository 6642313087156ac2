-- No more numbers than places to put them apart.
use Rattle.std.proofs.Common.{◌≡◌, ℕ, zero, suc, ◌<◌, ◌≤◌, cond, eqb, suc-le-suc, zero-le, arith}
use Rattle.std.proofs.lemmas.Bool.Decides.{nat_tests}
use Rattle.codes.specs.Words.{CodeMeaning, CodeLaws}

-- f, but z where f is n
abbrev other_than : ℕ → ℕ → (ℕ → ℕ) → ℕ → ℕ
other_than n z f i = cond (eqb (f i) n) z (f i)

pub pigeonhole : (n k : ℕ) (f : ℕ → ℕ) → ((i : ℕ) → i < k → f i < n) → ((i j : ℕ) → i < k → j < k → f i ≡ f j → i ≡ j) → k ≤ n
pigeonhole n zero f b a = zero-le
pigeonhole zero (suc k) f b a = absurd (omega (arith, b 0 (omega arith)))
pigeonhole (suc n) (suc k) f b a = suc-le-suc (pigeonhole n k (other_than n (f k) f) below apart)
  where
    below : (i : ℕ) → i < k → other_than n (f k) f i < n
    below i h = grind (arith, nat_tests, b i, b k, a i k)

    apart : (i j : ℕ) → i < k → j < k → other_than n (f k) f i ≡ other_than n (f k) f j → i ≡ j
    apart i j hi hj e = grind (arith, nat_tests, a i j, a i k, a k j)

-- a code has no more message symbols than places
pub few_symbols : (m : CodeMeaning) → CodeLaws m → m.dimension ≤ m.places
few_symbols m K = pigeonhole m.places m.dimension m.message_place K.within K.distinct
