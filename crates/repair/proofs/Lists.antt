-- Lists of elements.
use Rattle.std.proofs.Common.{◌≡◌, ℕ, zero, suc, ◌+◌, ◌<◌, ◌≤◌, List, length, get_or, take, replicate, refl, sym, ap, ◌∙◌, ap₂, ⊎_elim, arith, add-one, length-take, get_or-take, pow_pos}
use lib.Bits.{bit_xor}
use Rattle.std.proofs.lemmas.Bool.{cases_lt}
use Rattle.fields.specs.Meaning.{FieldMeaning, size}
use Rattle.codes.proofs.Sums.{sum_cong}
use Rattle.erasures.specs.Elimination.{dot, Elements}

-- elements below n, and zeros from there on
pub elements_below : (f : FieldMeaning) (xs : List ℕ) (n : ℕ) → ((k : ℕ) → k < n → get_or xs k 0 < size f) → ((k : ℕ) → n ≤ k → get_or xs k 0 ≡ 0) → Elements f xs
elements_below f xs n below zeros k = ⊎_elim (below k) (λ l. rw (zeros k l) (pow_pos f.width)) (cases_lt k n)

-- what a function gives below n, as elements and as a list
pub tabulated : (f : FieldMeaning) (xs : List ℕ) (n r : ℕ) (a : ℕ → ℕ) → n ≡ r → ((k : ℕ) → k < n → (get_or xs k 0 < size f) × (get_or xs k 0 ≡ a k)) → ((k : ℕ) → n ≤ k → get_or xs k 0 ≡ 0)
    → Elements f xs × ((k : ℕ) → k < r → get_or xs k 0 ≡ a k)
tabulated f xs n r a e given zeros = (elements_below f xs n (λ k l. (given k l).0) zeros, λ k l. (given k (omega arith)).1)

-- one more product added
pub dot_more : (mul : ℕ → ℕ → ℕ) (a b : ℕ → ℕ) (n total x y : ℕ) → total ≡ dot mul n a b → x ≡ a n → y ≡ b n → bit_xor total (mul x y) ≡ dot mul (n + 1) a b
dot_more mul a b n total x y so_far at_left at_right =
    ap₂ bit_xor so_far (ap₂ mul at_left at_right) ∙ ap (λ (k : ℕ). dot mul k a b) (sym (add-one n))

pub zeros_at : (n j : ℕ) → ◌≡◌ {A = ℕ} (get_or (replicate n 0) j 0) 0
zeros_at zero j = refl
zeros_at (suc n) zero = refl
zeros_at (suc n) (suc j) = zeros_at n j

-- only the first r numbers of the list count
pub dot_front : (mul : ℕ → ℕ → ℕ) (a : ℕ → ℕ) (right : List ℕ) (n r : ℕ) (b : ℕ → ℕ) → n ≡ r → r ≤ length right → ((j : ℕ) → j < r → get_or right j 0 ≡ b j)
    → dot mul (length (take n right)) a (λ j. get_or (take n right) j 0) ≡ dot mul r a b
dot_front mul a right n r b e room at_right =
    ap (λ (k : ℕ). dot mul k a (λ j. get_or (take n right) j 0)) long
    ∙ sum_cong r (λ j. mul (a j) (get_or (take n right) j 0)) (λ j. mul (a j) (b j))
    (λ j l. let m : j < n = omega arith in ap (mul (a j)) (get_or-take n right j 0 m ∙ at_right j l))
  where
    long : length (take n right) ≡ r
    long = simp length-take (omega arith)
