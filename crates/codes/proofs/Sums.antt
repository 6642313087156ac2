-- Sums, and lists by what stands at each place.
use Rattle.std.proofs.Common.{◌≡◌, ◌≢◌, ℕ, zero, suc, ◌+◌, ◌-◌, ◌*◌, ◌^◌, ◌<◌, cond, ltb, List, length, sym, refl, ap, ◌∙◌, subst, ap₂, ⊎_elim, le_of_suc-le-suc, add-zero, add-suc, suc-mul, zero-mul, arith, ext_get_or, pow_pos}
use lib.Bits.{bit_xor, xor_assoc, xor_zero_r, xor_lt}
use Rattle.std.proofs.lemmas.Bool.{cases_eq}
use Rattle.std.proofs.lemmas.Bool.Decides.{nat_tests}
use Rattle.fields.proofs.Additive.{xor_exchange}
pub use Rattle.fields.proofs.Additive.{xor_same}
use Rattle.codes.specs.Words.{sum, at}
use Rattle.codes.specs.Arrays.{build}

pub sum_cong : (n : ℕ) (f g : ℕ → ℕ) → ((i : ℕ) → i < n → f i ≡ g i) → sum n f ≡ sum n g
sum_cong zero f g h = refl
sum_cong (suc n) f g h = ap₂ bit_xor (sum_cong n f g (λ i l. h i (omega arith))) (h n (omega arith))

pub sum_zero : (n : ℕ) (f : ℕ → ℕ) → ((i : ℕ) → i < n → f i ≡ 0) → sum n f ≡ 0
sum_zero zero f h = refl
sum_zero (suc n) f h = ap₂ bit_xor (sum_zero n f (λ i l. h i (omega arith))) (h n (omega arith))

pub sum_xor : (n : ℕ) (f g : ℕ → ℕ) → sum n (λ i. bit_xor (f i) (g i)) ≡ bit_xor (sum n f) (sum n g)
sum_xor zero f g = refl
sum_xor (suc n) f g = ap (λ (x : ℕ). bit_xor x (bit_xor (f n) (g n))) (sum_xor n f g) ∙ xor_exchange (sum n f) (sum n g) (f n) (g n)

pub sum_below : (k n : ℕ) (f : ℕ → ℕ) → ((i : ℕ) → i < n → f i < 2 ^ k) → sum n f < 2 ^ k
sum_below k zero f h = pow_pos k
sum_below k (suc n) f h = xor_lt k (sum n f) (f n) (sum_below k n f (λ i l. h i (omega arith))) (h n (omega arith))

-- a sum with one term that is not 0
pub sum_one : (n : ℕ) (f : ℕ → ℕ) (k : ℕ) → k < n → ((i : ℕ) → i < n → (i ≢ k) → f i ≡ 0) → sum n f ≡ f k
sum_one zero f k l h = absurd (omega arith)
sum_one (suc n) f k l h =
    ⊎_elim
    (λ e. ap₂ bit_xor (sum_zero n f (λ i m. h i (omega arith) (omega arith))) (ap f (sym e)))
    (λ ne.
    let m : k < n = omega arith in
    ap₂ bit_xor (sum_one n f k m (λ i o p. h i (omega arith) p)) (h n (omega arith) (λ q. ne (sym q))) ∙ xor_zero_r (f k))
    (cases_eq k n)

-- the first n terms, and the m that follow
pub sum_split : (n m : ℕ) (f : ℕ → ℕ) → sum (n + m) f ≡ bit_xor (sum n f) (sum m (λ i. f (n + i)))
sum_split n zero f = ap (λ (t : ℕ). sum t f) (add-zero n) ∙ sym (xor_zero_r (sum n f))
sum_split n (suc m) f =
    ap (λ (t : ℕ). sum t f) (add-suc n m) ∙ ap (λ (t : ℕ). bit_xor t (f (n + m))) (sum_split n m f)
    ∙ xor_assoc (sum n f) (sum m (λ i. f (n + i))) (f (n + m))

-- a sum row by row
pub sum_grid : (n m : ℕ) (f : ℕ → ℕ) → sum (n * m) f ≡ sum n (λ i. sum m (λ j. f (i * m + j)))
sum_grid zero m f = ap (λ (t : ℕ). sum t f) (zero-mul m)
sum_grid (suc n) m f =
    ap (λ (t : ℕ). sum t f) (suc-mul n m) ∙ sum_split (n * m) m f ∙ ap (λ (t : ℕ). bit_xor t (sum m (λ j. f (n * m + j)))) (sum_grid n m f)

pub length_build : (n : ℕ) (g : ℕ → ℕ) → length (build n g) ≡ n
length_build zero g = refl
length_build (suc n) g = ap suc (length_build n (λ i. g (suc i)))

pub at_build : (n : ℕ) (g : ℕ → ℕ) (i : ℕ) → i < n → at (build n g) i ≡ g i
at_build zero g i h = absurd (omega arith)
at_build (suc n) g zero h = refl
at_build (suc n) g (suc i) h = at_build n (λ i. g (suc i)) i (le_of_suc-le-suc h)

-- two lists of n elements with the same at each place
pub same_at : (n : ℕ) (v w : List ℕ) → length v ≡ n → length w ≡ n → ((p : ℕ) → p < n → at v p ≡ at w p) → v ≡ w
same_at n v w lv lw h = ext_get_or 0 v w (lv ∙ sym lw) (λ i l. h i (subst (λ (t : ℕ). i < t) lv l))

-- g at the first k, then h
abbrev pub then_at : ℕ → (ℕ → ℕ) → (ℕ → ℕ) → ℕ → ℕ
then_at k g h p = cond (ltb p k) (g p) (h (p - k))

pub then_low : (k : ℕ) (g h : ℕ → ℕ) (p : ℕ) → p < k → then_at k g h p ≡ g p
then_low k g h p l = grind (arith, nat_tests)

pub then_high : (k : ℕ) (g h : ℕ → ℕ) (i : ℕ) → then_at k g h (k + i) ≡ h i
then_high k g h i = grind (arith, nat_tests)

-- a sum with two terms that are not 0, and with three
pub sum_two : (n : ℕ) (f : ℕ → ℕ) (a b : ℕ) → a < b → b < n → ((i : ℕ) → i < n → (i ≢ a) → (i ≢ b) → f i ≡ 0)
    → sum n f ≡ bit_xor (f a) (f b)
sum_two zero f a b h l z = absurd (omega arith)
sum_two (suc n) f a b h l z =
    ⊎_elim
    (λ e. ap₂ bit_xor (sum_one n f a (omega arith) (λ i m ne. z i (omega arith) ne (omega arith))) (ap f (sym e)))
    (λ ne.
    let m : b < n = omega arith in
    ap₂ bit_xor (sum_two n f a b h m (λ i o p q. z i (omega arith) p q)) (z n (omega arith) (λ q. omega (arith, q)) (λ q. ne (sym q))) ∙ xor_zero_r (bit_xor (f a) (f b)))
    (cases_eq b n)

pub sum_three : (n : ℕ) (f : ℕ → ℕ) (a b c : ℕ) → a < b → b < c → c < n
    → ((i : ℕ) → i < n → (i ≢ a) → (i ≢ b) → (i ≢ c) → f i ≡ 0)
    → sum n f ≡ bit_xor (bit_xor (f a) (f b)) (f c)
sum_three zero f a b c h k l z = absurd (omega arith)
sum_three (suc n) f a b c h k l z =
    ⊎_elim
    (λ e. ap₂ bit_xor (sum_two n f a b h (omega arith) (λ i m p q. z i (omega arith) p q (omega arith))) (ap f (sym e)))
    (λ ne.
    let m : c < n = omega arith in
    ap₂ bit_xor (sum_three n f a b c h k m (λ i o p q r. z i (omega arith) p q r)) (z n (omega arith) (λ q. omega (arith, q)) (λ q. omega (arith, q)) (λ q. ne (sym q)))
    ∙ xor_zero_r (bit_xor (bit_xor (f a) (f b)) (f c)))
    (cases_eq c n)

-- a sum of sums, either way round
pub sum_swap : (n m : ℕ) (f : ℕ → ℕ → ℕ) → sum n (λ i. sum m (f i)) ≡ sum m (λ j. sum n (λ i. f i j))
sum_swap zero m f = sym (sum_zero m (λ j. 0) (λ j l. refl))
sum_swap (suc n) m f = ap (λ (t : ℕ). bit_xor t (sum m (f n))) (sum_swap n m f) ∙ sym (sum_xor m (λ j. sum n (λ i. f i j)) (f n))
