-- A test of every number below a bound, computed once and read at any of them.
use Rattle.std.proofs.Common.{◌≡◌, ℕ, zero, suc, ◌<◌, Bool, true, ◌&&◌, eqb, ltb, List, [], ◌∷◌, get_or, refl, eqb-true, ltb-true}
use Rattle.std.specs.List.{list_all}
use Rattle.std.proofs.lemmas.Bool.{and_parts}
use Rattle.std.proofs.lemmas.Bool.Decides.{Decides-below_and}

-- the test passes at each number below n
abbrev pub all : ℕ → (ℕ → Bool) → Bool
all zero test = true
all (suc n) test = test n && all n test

pub at : (n : ℕ) (test : ℕ → Bool) → all n test ≡ true → (k : ℕ) → k < n → test k ≡ true
at n test = (Decides-below_and test (λ k. test k ≡ true) (λ n. all n test) (λ k. (λ e. e, λ e. e)) refl (λ _. refl) n).0

-- the one at i of a list of tests that all pass
pub passed : (bs : List Bool) → list_all (λ b. b) bs ≡ true → (i : ℕ) → get_or bs i true ≡ true
passed [] t i = refl
passed (b ∷ bs) t zero = (and_parts b (list_all (λ b. b) bs) t).0
passed (b ∷ bs) t (suc i) = passed bs (and_parts b (list_all (λ b. b) bs) t).1 i

-- two functions that are equal, and one that is below m, at each number below n
pub same_at : (n : ℕ) (f g : ℕ → ℕ) → all n (λ x. eqb (f x) (g x)) ≡ true → (x : ℕ) → x < n → f x ≡ g x
same_at n f g t x h = eqb-true (f x) (g x) (at n (λ x. eqb (f x) (g x)) t x h)

pub below_at : (n m : ℕ) (f : ℕ → ℕ) → all n (λ x. ltb (f x) m) ≡ true → (x : ℕ) → x < n → f x < m
below_at n m f t x h = ltb-true (f x) m (at n (λ x. ltb (f x) m) t x h)
