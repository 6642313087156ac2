-- Identities between polynomials over the elements of a field whose sum is the exclusive or:
-- two expressions with one normal form, a sorted list of sorted monomials, are equal at all elements.
use Rattle.std.proofs.Common.{◌≡◌, ℕ, zero, suc, ◌<◌, Bool, cond, eqb, leb, List, [], ◌∷◌, get_or, nat_cmp, is_lt, sym, refl, ap, ◌∙◌, ap₂, pow_pos, pow_mono}
use Rattle.std.specs.Cmp.Lexicographic.{pointwise, slice_cmp}
use Rattle.std.proofs.lemmas.Bool.{cond_both}
use Rattle.std.proofs.lemmas.Slice.Eq.{bytes_eq-Decides}
use lib.Bits.{bit_xor, xor_assoc, xor_comm, xor_self, xor_zero_r, xor_lt}
use Rattle.fields.specs.Meaning.{FieldMeaning, FieldLaws, size}

pub data Expr : Type 0 where
  var : ℕ → Expr
  nought : Expr
  one : Expr
  sum : Expr → Expr → Expr
  prod : Expr → Expr → Expr

abbrev pub eval : FieldMeaning → List ℕ → Expr → ℕ
eval f vs (var i) = get_or vs i 0
eval f vs nought = 0
eval f vs one = 1
eval f vs (sum a b) = bit_xor (eval f vs a) (eval f vs b)
eval f vs (prod a b) = f.product (eval f vs a) (eval f vs b)

abbrev pub Bounded : FieldMeaning → List ℕ → Type 0
Bounded f [] = Unit {0}
Bounded f (x ∷ xs) = (x < size f) × Bounded f xs

-- ---- normal forms

abbrev with_var : ℕ → List ℕ → List ℕ
with_var v [] = v ∷ []
with_var v (u ∷ m) = cond (leb v u) (v ∷ u ∷ m) (u ∷ with_var v m)

abbrev mul_mono : List ℕ → List ℕ → List ℕ
mul_mono [] n = n
mul_mono (v ∷ m) n = with_var v (mul_mono m n)

abbrev before : List ℕ → List ℕ → Bool
before m n = is_lt (slice_cmp nat_cmp m n)

abbrev with_mono : List ℕ → List (List ℕ) → List (List ℕ)
with_mono m [] = m ∷ []
with_mono m (n ∷ P) = cond (pointwise eqb m n) P (cond (before m n) (m ∷ n ∷ P) (n ∷ with_mono m P))

abbrev add : List (List ℕ) → List (List ℕ) → List (List ℕ)
add [] Q = Q
add (m ∷ P) Q = with_mono m (add P Q)

abbrev scale : List ℕ → List (List ℕ) → List (List ℕ)
scale m [] = []
scale m (n ∷ P) = with_mono (mul_mono m n) (scale m P)

abbrev mul : List (List ℕ) → List (List ℕ) → List (List ℕ)
mul [] Q = []
mul (m ∷ P) Q = add (scale m Q) (mul P Q)

abbrev pub normal : Expr → List (List ℕ)
normal (var i) = (i ∷ []) ∷ []
normal nought = []
normal one = [] ∷ []
normal (sum a b) = add (normal a) (normal b)
normal (prod a b) = mul (normal a) (normal b)

-- ---- what a normal form means

module _ (f : FieldMeaning) (L : FieldLaws f) where
  pub xor_below : (x y : ℕ) → x < size f → y < size f → bit_xor x y < size f
  xor_below x y hx hy = xor_lt f.width x y hx hy

  pub zero_below : 0 < size f
  zero_below = pow_pos f.width

  pub one_below : 1 < size f
  one_below = pow_mono {i = 1} {j = f.width} L.some_bits

  pub times_zero : (x : ℕ) → x < size f → f.product x 0 ≡ 0
  times_zero x h = L.distributes x 0 0 h zero_below zero_below ∙ xor_self (f.product x 0)

  pub zero_times : (x : ℕ) → x < size f → f.product 0 x ≡ 0
  zero_times x h = L.commutes 0 x zero_below h ∙ times_zero x h

  pub times_one : (x : ℕ) → x < size f → f.product x 1 ≡ x
  times_one x h = L.commutes x 1 h one_below ∙ L.neutral x h

  pub sum_times : (x y z : ℕ) → x < size f → y < size f → z < size f → f.product (bit_xor x y) z ≡ bit_xor (f.product x z) (f.product y z)
  sum_times x y z hx hy hz = cc (L.commutes (bit_xor x y) z (xor_below x y hx hy) hz, L.distributes z x y hz hx hy, L.commutes z x hz hx, L.commutes z y hz hy)

  left_comm : (x y z : ℕ) → x < size f → y < size f → z < size f → f.product x (f.product y z) ≡ f.product y (f.product x z)
  left_comm x y z hx hy hz = cc (L.associates x y z hx hy hz, L.commutes x y hx hy, L.associates y x z hy hx hz)

  module _ (vs : List ℕ) (bs : Bounded f vs) where
    abbrev look : ℕ → ℕ
    look i = get_or vs i 0

    look_below : (i : ℕ) → look i < size f
    look_below = go vs bs
      where
        go : (xs : List ℕ) → Bounded f xs → (i : ℕ) → get_or xs i 0 < size f
        go [] b i = zero_below
        go (x ∷ xs) b zero = b.0
        go (x ∷ xs) b (suc i) = go xs b.1 i

    pub eval_below : (e : Expr) → eval f vs e < size f
    eval_below (var i) = look_below i
    eval_below nought = zero_below
    eval_below one = one_below
    eval_below (sum a b) = xor_below (eval f vs a) (eval f vs b) (eval_below a) (eval_below b)
    eval_below (prod a b) = L.closed (eval f vs a) (eval f vs b) (eval_below a) (eval_below b)

    mono : List ℕ → ℕ
    mono [] = 1
    mono (v ∷ m) = f.product (look v) (mono m)

    poly : List (List ℕ) → ℕ
    poly [] = 0
    poly (m ∷ P) = bit_xor (mono m) (poly P)

    mono_below : (m : List ℕ) → mono m < size f
    unfolding mono
    mono_below [] = one_below
    mono_below (v ∷ m) = L.closed (look v) (mono m) (look_below v) (mono_below m)

    poly_below : (P : List (List ℕ)) → poly P < size f
    unfolding poly
    poly_below [] = zero_below
    poly_below (m ∷ P) = xor_below (mono m) (poly P) (mono_below m) (poly_below P)

    with_var_is : (v : ℕ) (m : List ℕ) → mono (with_var v m) ≡ f.product (look v) (mono m)
    unfolding mono
    with_var_is v [] = refl
    with_var_is v (u ∷ m) =
        cond_both (leb v u) (v ∷ u ∷ m) (u ∷ with_var v m) (λ l. mono l ≡ f.product (look v) (f.product (look u) (mono m))) (λ _. refl)
        (λ _. ap (f.product (look u)) (with_var_is v m) ∙ left_comm (look u) (look v) (mono m) (look_below u) (look_below v) (mono_below m))

    mul_mono_is : (m n : List ℕ) → mono (mul_mono m n) ≡ f.product (mono m) (mono n)
    unfolding mono
    mul_mono_is [] n = sym (L.neutral (mono n) (mono_below n))
    mul_mono_is (v ∷ m) n = cc (with_var_is v (mul_mono m n), mul_mono_is m n, L.associates (look v) (mono m) (mono n) (look_below v) (mono_below m) (mono_below n))

    cancel : (a b : ℕ) → b ≡ bit_xor a (bit_xor a b)
    cancel a b = sym (sym (xor_assoc a a b) ∙ ap (λ (t : ℕ). bit_xor t b) (xor_self a))

    swap : (a b c : ℕ) → bit_xor b (bit_xor a c) ≡ bit_xor a (bit_xor b c)
    swap a b c = sym (xor_assoc b a c) ∙ ap (λ (t : ℕ). bit_xor t c) (xor_comm b a) ∙ xor_assoc a b c

    with_mono_is : (m : List ℕ) (P : List (List ℕ)) → poly (with_mono m P) ≡ bit_xor (mono m) (poly P)
    unfolding poly
    with_mono_is m [] = refl
    with_mono_is m (n ∷ P) =
        cond_both (pointwise eqb m n) P _ (λ Q. poly Q ≡ bit_xor (mono m) (bit_xor (mono n) (poly P)))
        (λ e. cancel (mono m) (poly P) ∙ ap (λ (t : List ℕ). bit_xor (mono m) (bit_xor (mono t) (poly P))) ((bytes_eq-Decides m n).0 e))
        (λ _. cond_both (before m n) (m ∷ n ∷ P) (n ∷ with_mono m P) (λ Q. poly Q ≡ bit_xor (mono m) (bit_xor (mono n) (poly P))) (λ _. refl)
        (λ _. ap (bit_xor (mono n)) (with_mono_is m P) ∙ swap (mono m) (mono n) (poly P)))

    add_is : (P Q : List (List ℕ)) → poly (add P Q) ≡ bit_xor (poly P) (poly Q)
    unfolding poly
    add_is [] Q = refl
    add_is (m ∷ P) Q = with_mono_is m (add P Q) ∙ ap (bit_xor (mono m)) (add_is P Q) ∙ sym (xor_assoc (mono m) (poly P) (poly Q))

    scale_is : (m : List ℕ) (P : List (List ℕ)) → poly (scale m P) ≡ f.product (mono m) (poly P)
    unfolding poly
    scale_is m [] = sym (times_zero (mono m) (mono_below m))
    scale_is m (n ∷ P) =
        cc (with_mono_is (mul_mono m n) (scale m P), mul_mono_is m n, scale_is m P, L.distributes (mono m) (mono n) (poly P) (mono_below m) (mono_below n) (poly_below P))

    mul_is : (P Q : List (List ℕ)) → poly (mul P Q) ≡ f.product (poly P) (poly Q)
    unfolding poly
    mul_is [] Q = sym (zero_times (poly Q) (poly_below Q))
    mul_is (m ∷ P) Q =
        cc (add_is (scale m Q) (mul P Q), scale_is m Q, mul_is P Q, sum_times (mono m) (poly P) (poly Q) (mono_below m) (poly_below P) (poly_below Q))

    normal_is : (e : Expr) → poly (normal e) ≡ eval f vs e
    unfolding poly mono
    normal_is (var i) = xor_zero_r (f.product (look i) 1) ∙ times_one (look i) (look_below i)
    normal_is nought = refl
    normal_is one = refl
    normal_is (sum a b) = add_is (normal a) (normal b) ∙ ap₂ bit_xor (normal_is a) (normal_is b)
    normal_is (prod a b) = mul_is (normal a) (normal b) ∙ ap₂ f.product (normal_is a) (normal_is b)

    pub solve : (a b : Expr) → normal a ≡ normal b → eval f vs a ≡ eval f vs b
    solve a b e = sym (normal_is a) ∙ ap poly e ∙ normal_is b
