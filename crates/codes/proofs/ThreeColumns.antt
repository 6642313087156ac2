-- A word of the four times extended code that is zero outside three places is zero.
use Rattle.std.proofs.Common.{◌≡◌, ◌≢◌, ℕ, zero, suc, ◌+◌, ◌-◌, ◌<◌, ◌≤◌, List, [], ◌∷◌, sym, refl, ap, ◌∙◌, subst, ⊎_elim, arith, lit<}
use lib.Bits.{bit_xor, xor_zero_r, xor_self}
use Rattle.std.proofs.lemmas.Bool.{cases_lt, cases_eq, cases_order}
use Rattle.fields.specs.Meaning.{FieldMeaning, FieldLaws, size}
use Rattle.fields.proofs.Identities.{Expr, var, nought, one, eval, solve, Bounded, times_zero, one_below, xor_below}
use Rattle.fields.proofs.Identities as s
use Rattle.fields.proofs.PairLaws.{quotient}
use Rattle.codes.specs.Words.{Word, sum, at}
use Rattle.codes.specs.Systematic.{power_of, point, four_entry, four_times}
use Rattle.codes.specs.Theorems.{plus, ButThree, ThreeIndependent, ThreeTellApart}
use Rattle.codes.proofs.Sums.{xor_same, sum_zero, sum_one, sum_two, sum_three, same_at}
use Rattle.codes.proofs.Systematic.{systematic, tail_is, placed}
use Rattle.codes.proofs.Families.{point_below, point_nonzero, point_apart, power_below, entry_point, four_tailed, four_long, four_times_laws}
use Rattle.codes.proofs.Plus.{at_plus, sum_is_word}

abbrev X : Expr
X = var 0

abbrev Y : Expr
Y = var 1

abbrev Z : Expr
Z = var 2

abbrev A : Expr
A = var 3

abbrev B : Expr
B = var 4

abbrev C : Expr
C = var 5

infixl 60 ◌⊕◌
infixl 70 ◌⊗◌
abbrev ◌⊕◌ : Expr → Expr → Expr
a ⊕ b = s.sum a b

abbrev ◌⊗◌ : Expr → Expr → Expr
a ⊗ b = s.prod a b

module _ (f : FieldMeaning) (L : FieldLaws f) where
  product_nonzero : (x y : ℕ) → x < size f → y < size f → (x ≢ 0) → (y ≢ 0) → f.product x y ≢ 0
  product_nonzero x y hx hy nx ny e = ny (quotient f L x y hx hy nx e)

  sum_nonzero : (x y : ℕ) → (x ≢ y) → bit_xor x y ≢ 0
  sum_nonzero x y ne e = ne (xor_same x y e)

  power_nonzero : (j x : ℕ) → x < size f → (x ≢ 0) → power_of f j x ≢ 0
  power_nonzero zero x h ne e = omega (arith, e)
  power_nonzero (suc zero) x h ne e = ne e
  power_nonzero (suc (suc zero)) x h ne e = product_nonzero x x h h ne ne e
  power_nonzero (suc (suc (suc j))) x h ne e = product_nonzero (f.product x x) x (L.closed x x h h) h (product_nonzero x x h h ne ne) ne e

  -- one point
  abbrev RowOne : ℕ → ℕ → ℕ → Type 0
  RowOne j x α = f.product (power_of f j x) α ≡ 0

  one_point : (j x α : ℕ) → x < size f → α < size f → (x ≢ 0) → RowOne j x α → α ≡ 0
  one_point j x α hx ha ne = quotient f L (power_of f j x) α (power_below f L j x hx) ha (power_nonzero j x hx ne)

  -- two points
  abbrev RowTwo : ℕ → ℕ → ℕ → ℕ → ℕ → Type 0
  RowTwo j x y α β = bit_xor (f.product (power_of f j x) α) (f.product (power_of f j y) β) ≡ 0

  module _ (x y α β : ℕ) (hx : x < size f) (hy : y < size f) (ha : α < size f) (hb : β < size f)
      (nx : x ≢ 0) (ny : y ≢ 0) (ne : x ≢ y) where
    none : (t : ℕ) → t < size f → bit_xor (f.product t 0) 0 ≡ 0
    none t h = xor_zero_r (f.product t 0) ∙ times_zero f L t h

    two_low : RowTwo 0 x y α β → RowTwo 1 x y α β → (α ≡ 0) × (β ≡ 0)
    two_low r0 r1 =
        let bs : Bounded f (x ∷ y ∷ 0 ∷ α ∷ β ∷ []) = (hx, (hy, (s.zero_below f L, (ha, (hb, tt))))) in
        let hxy : bit_xor x y < size f = xor_below f L x y hx hy in (
          quotient f L (bit_xor x y) α hxy ha (sum_nonzero x y ne)
              (cc (solve f L (x ∷ y ∷ 0 ∷ α ∷ β ∷ []) bs ((X ⊕ Y) ⊗ A) (Y ⊗ (one ⊗ A ⊕ one ⊗ B) ⊕ (X ⊗ A ⊕ Y ⊗ B)) refl, none y hy)),
          quotient f L (bit_xor x y) β hxy hb (sum_nonzero x y ne)
              (cc (solve f L (x ∷ y ∷ 0 ∷ α ∷ β ∷ []) bs ((X ⊕ Y) ⊗ B) (X ⊗ (one ⊗ A ⊕ one ⊗ B) ⊕ (X ⊗ A ⊕ Y ⊗ B)) refl, none x hx)),
        )

    two_high : RowTwo 2 x y α β → RowTwo 3 x y α β → (α ≡ 0) × (β ≡ 0)
    two_high r2 r3 =
        let bs : Bounded f (x ∷ y ∷ 0 ∷ α ∷ β ∷ []) = (hx, (hy, (s.zero_below f L, (ha, (hb, tt))))) in
        let hxy : bit_xor x y < size f = xor_below f L x y hx hy in
        let hxx : f.product x x < size f = L.closed x x hx hx in
        let hyy : f.product y y < size f = L.closed y y hy hy in (
          quotient f L (f.product (bit_xor x y) (f.product x x)) α (L.closed (bit_xor x y) (f.product x x) hxy hxx) ha
              (product_nonzero (bit_xor x y) (f.product x x) hxy hxx (sum_nonzero x y ne) (product_nonzero x x hx hx nx nx))
              (cc (solve f L (x ∷ y ∷ 0 ∷ α ∷ β ∷ []) bs (((X ⊕ Y) ⊗ (X ⊗ X)) ⊗ A) (Y ⊗ (X ⊗ X ⊗ A ⊕ Y ⊗ Y ⊗ B) ⊕ (X ⊗ X ⊗ X ⊗ A ⊕ Y ⊗ Y ⊗ Y ⊗ B)) refl, none y hy)),
          quotient f L (f.product (bit_xor x y) (f.product y y)) β (L.closed (bit_xor x y) (f.product y y) hxy hyy) hb
              (product_nonzero (bit_xor x y) (f.product y y) hxy hyy (sum_nonzero x y ne) (product_nonzero y y hy hy ny ny))
              (cc (solve f L (x ∷ y ∷ 0 ∷ α ∷ β ∷ []) bs (((X ⊕ Y) ⊗ (Y ⊗ Y)) ⊗ B) (X ⊗ (X ⊗ X ⊗ A ⊕ Y ⊗ Y ⊗ B) ⊕ (X ⊗ X ⊗ X ⊗ A ⊕ Y ⊗ Y ⊗ Y ⊗ B)) refl, none x hx)),
        )

  -- three points
  abbrev RowThree : ℕ → ℕ → ℕ → ℕ → ℕ → ℕ → ℕ → Type 0
  RowThree j x y z α β γ =
      bit_xor (bit_xor (f.product (power_of f j x) α) (f.product (power_of f j y) β)) (f.product (power_of f j z) γ) ≡ 0

  module _ (x y z α β γ : ℕ) (hx : x < size f) (hy : y < size f) (hz : z < size f)
      (ha : α < size f) (hb : β < size f) (hc : γ < size f) where
    last_point : (x ≢ z) → (y ≢ z) → RowThree 0 x y z α β γ → RowThree 1 x y z α β γ → RowThree 2 x y z α β γ → γ ≡ 0
    last_point nx ny r0 r1 r2 =
        let hxz : bit_xor x z < size f = xor_below f L x z hx hz in
        let hyz : bit_xor y z < size f = xor_below f L y z hy hz in
        quotient f L (f.product (bit_xor x z) (bit_xor y z)) γ (L.closed (bit_xor x z) (bit_xor y z) hxz hyz) hc
        (product_nonzero (bit_xor x z) (bit_xor y z) hxz hyz (sum_nonzero x z nx) (sum_nonzero y z ny))
        (cc (
          solve f L (x ∷ y ∷ z ∷ α ∷ β ∷ γ ∷ []) (hx, (hy, (hz, (ha, (hb, (hc, tt))))))
              (((X ⊕ Z) ⊗ (Y ⊕ Z)) ⊗ C)
              (((X ⊗ Y) ⊗ (one ⊗ A ⊕ one ⊗ B ⊕ one ⊗ C) ⊕ (X ⊕ Y) ⊗ (X ⊗ A ⊕ Y ⊗ B ⊕ Z ⊗ C)) ⊕ ((X ⊗ X) ⊗ A ⊕ (Y ⊗ Y) ⊗ B ⊕ (Z ⊗ Z) ⊗ C)) refl,
          times_zero f L (f.product x y) (L.closed x y hx hy),
          times_zero f L (bit_xor x y) (xor_below f L x y hx hy),
        ))

    three_points : (x ≢ 0) → (y ≢ 0) → (x ≢ y) → (x ≢ z) → (y ≢ z)
        → RowThree 0 x y z α β γ → RowThree 1 x y z α β γ → RowThree 2 x y z α β γ → (α ≡ 0) × (β ≡ 0) × (γ ≡ 0)
    three_points nx ny xy xz yz r0 r1 r2 =
        let g : γ ≡ 0 = last_point xz yz r0 r1 r2 in
        let h = two_low x y α β hx hy ha hb nx ny xy (less 0 g r0) (less 1 g r1) in
        (h.0, h.1, g)
      where
        less : (j : ℕ) → γ ≡ 0 → RowThree j x y z α β γ → RowTwo j x y α β
        less j g r =
            cc (xor_zero_r (bit_xor (f.product (power_of f j x) α) (f.product (power_of f j y) β)), times_zero f L (power_of f j z) (power_below f L j z hz))

-- P at every place below n, from P at all but three and at each of the three
pub from_three : (P : ℕ → Type 0) (n a b c : ℕ) → ButThree n P a b c → (a < n → P a) → (b < n → P b) → (c < n → P c) → (p : ℕ) → p < n → P p
from_three P n a b c z pa pb pc p h =
    ⊎_elim (λ e. subst P (sym e) (pa (subst (λ (t : ℕ). t < n) e h)))
    (λ na. ⊎_elim (λ e. subst P (sym e) (pb (subst (λ (t : ℕ). t < n) e h)))
    (λ nb. ⊎_elim (λ e. subst P (sym e) (pc (subst (λ (t : ℕ). t < n) e h)))
    (λ nc. z p h na nb nc)
    (cases_eq p c)) (cases_eq p b)) (cases_eq p a)

-- from three places in order to any three
module _ (n : ℕ) (P : ℕ → Type 0) (Q : Type 0) (strict : (a b c : ℕ) → a < b → b < c → ButThree n P a b c → Q) where
  of_two : (a b : ℕ) → ((p : ℕ) → p < n → (p ≢ a) → (p ≢ b) → P p) → Q
  of_two a b z =
      ⊎_elim
      (λ e. strict a (a + 1) (a + 2) (omega arith) (omega arith) (λ p h na nb nc. z p h na (λ q. na (q ∙ sym e))))
      (⊎_elim
      (λ l. strict a b (b + 1) l (omega arith) (λ p h na nb nc. z p h na nb))
      (λ l. strict b a (a + 1) l (omega arith) (λ p h nb na nc. z p h na nb)))
      (cases_order a b)

  of_ordered : (a b c : ℕ) → a < b → ButThree n P a b c → Q
  of_ordered a b c l z =
      ⊎_elim
      (λ e. of_two a b (λ p h na nb. z p h na nb (λ q. nb (q ∙ sym e))))
      (⊎_elim
      (λ m. strict a b c l m z)
      (λ m. ⊎_elim
      (λ e. of_two a b (λ p h na nb. z p h na nb (λ q. na (q ∙ sym e))))
      (⊎_elim
      (λ o. strict a c b o m (λ p h na nc nb. z p h na nb nc))
      (λ o. strict c a b o l (λ p h nc na nb. z p h na nb nc)))
      (cases_order a c)))
      (cases_order b c)

  pub any_three : (a b c : ℕ) → ButThree n P a b c → Q
  any_three a b c z =
      ⊎_elim
      (λ e. of_two a c (λ p h na nc. z p h na (λ q. na (q ∙ sym e)) nc))
      (⊎_elim
      (λ l. of_ordered a b c l z)
      (λ l. of_ordered b a c l (λ p h nb na nc. z p h na nb nc)))
      (cases_order a b)

module _ (f : FieldMeaning) (L : FieldLaws f) (w : List ℕ) (W : Word (systematic f (size f - 1 + 4) (size f - 1) 4 (four_entry f)) w) where
  abbrev k : ℕ
  k = size f - 1

  element : (p : ℕ) → p < k → at w p < size f
  element p h = W.elements p (omega arith)

  -- a term of check j
  term : ℕ → ℕ → ℕ
  term j p = f.product (four_entry f j p) (at w p)

  tail : (j : ℕ) → j < 4 → at w (k + j) ≡ sum k (term j)
  unfolding term
  tail j h = tail_is f L k 4 (four_entry f) (four_tailed f L) w W j h

  at_point : (j p : ℕ) → p < k → term j p ≡ f.product (power_of f j (point f p)) (at w p)
  unfolding term
  at_point j p h = ap (λ (y : ℕ). f.product y (at w p)) (entry_point f L j p h)

  at_zero : (j p : ℕ) → p < k → at w p ≡ 0 → term j p ≡ 0
  at_zero j p h e = grind (arith, at_point, times_zero, power_below, point_below)

  -- zero at every point, and so everywhere
  at_units : ((p : ℕ) → p < k → at w p ≡ 0) → (p : ℕ) → p < k + 4 → at w p ≡ 0
  at_units z = placed (λ p. at w p ≡ 0) k 4 z (λ j h. tail j h ∙ sum_zero k (term j) (λ p l. at_zero j p l (z p l)))

  module _ (a b c : ℕ) (ab : a < b) (bc : b < c) (z : ButThree (k + 4) (λ p. at w p ≡ 0) a b c) where
    inner : ButThree k (λ p. at w p ≡ 0) a b c
    inner p h = z p (omega arith)

    three : c < k → (p : ℕ) → p < k → at w p ≡ 0
    three h =
        let ha : a < k = omega arith in
        let hb : b < k = omega arith in
        let e = three_points f L (point f a) (point f b) (point f c) (at w a) (at w b) (at w c)
        (point_below f L a ha) (point_below f L b hb) (point_below f L c h) (element a ha) (element b hb) (element c h)
        (point_nonzero f L a ha) (point_nonzero f L b hb)
        (λ q. omega (arith, point_apart f L a b ha hb q)) (λ q. omega (arith, point_apart f L a c ha h q)) (λ q. omega (arith, point_apart f L b c hb h q))
        (row 0 (lit< tt) ha hb) (row 1 (lit< tt) ha hb) (row 2 (lit< tt) ha hb) in
        from_three (λ p. at w p ≡ 0) k a b c inner (λ _. e.0) (λ _. e.1) (λ _. e.2)
      where
        row : (j : ℕ) → j < 4 → a < k → b < k → RowThree f L j (point f a) (point f b) (point f c) (at w a) (at w b) (at w c)
        row j hj ha hb =
            let sum = sum_three k (term j) a b c ab bc h (λ p l na nb nc. at_zero j p l (inner p l na nb nc)) in
            cc (at_point j a ha, at_point j b hb, at_point j c h, tail j hj, z (k + j) (omega arith) (omega arith) (omega arith) (omega arith))

    two : b < k → k ≤ c → (p : ℕ) → p < k → at w p ≡ 0
    two hb h =
        let ha : a < k = omega arith in
        let e = ⊎_elim
        (λ (l : c < k + 2). two_high f L (point f a) (point f b) (at w a) (at w b)
        (point_below f L a ha) (point_below f L b hb) (element a ha) (element b hb) (point_nonzero f L a ha) (point_nonzero f L b hb)
        (λ q. omega (arith, point_apart f L a b ha hb q))
        (row 2 (lit< tt) (omega arith) ha) (row 3 (lit< tt) (omega arith) ha))
        (λ (l : k + 2 ≤ c). two_low f L (point f a) (point f b) (at w a) (at w b)
        (point_below f L a ha) (point_below f L b hb) (element a ha) (element b hb) (point_nonzero f L a ha) (point_nonzero f L b hb)
        (λ q. omega (arith, point_apart f L a b ha hb q))
        (row 0 (lit< tt) (omega arith) ha) (row 1 (lit< tt) (omega arith) ha))
        (cases_lt c (k + 2)) in
        from_three (λ p. at w p ≡ 0) k a b c inner (λ _. e.0) (λ _. e.1) (λ l. absurd (omega arith))
      where
        row : (j : ℕ) → j < 4 → (k + j ≢ c) → a < k → RowTwo f L j (point f a) (point f b) (at w a) (at w b)
        row j hj nc ha =
            let sum = sum_two k (term j) a b ab hb (λ p l na nb. at_zero j p l (inner p l na nb (omega arith))) in
            cc (at_point j a ha, at_point j b hb, tail j hj, z (k + j) (omega arith) (omega arith) (omega arith) nc)

    once : a < k → k ≤ b → (p : ℕ) → p < k → at w p ≡ 0
    once ha h =
        let e : at w a ≡ 0 = ⊎_elim
        (λ (l : k < b). row 0 (lit< tt) (omega arith) (omega arith))
        (λ (l : b ≤ k). ⊎_elim
        (λ (m : k + 1 < c). row 1 (lit< tt) (omega arith) (omega arith))
        (λ (m : c ≤ k + 1). row 2 (lit< tt) (omega arith) (omega arith))
        (cases_lt (k + 1) c))
        (cases_lt k b) in
        from_three (λ p. at w p ≡ 0) k a b c inner (λ _. e) (λ l. absurd (omega arith)) (λ l. absurd (omega arith))
      where
        row : (j : ℕ) → j < 4 → (k + j ≢ b) → (k + j ≢ c) → at w a ≡ 0
        row j hj nb nc =
            let sum = sum_one k (term j) a ha (λ p l na. at_zero j p l (inner p l na (omega arith) (omega arith))) in
            one_point f L j (point f a) (at w a) (point_below f L a ha) (element a ha) (point_nonzero f L a ha)
            (cc (at_point j a ha, tail j hj, z (k + j) (omega arith) (omega arith) nb nc))

    points : (p : ℕ) → p < k → at w p ≡ 0
    points = grind (arith, three, two, once, inner)

    strict : (p : ℕ) → p < k + 4 → at w p ≡ 0
    strict = at_units points

  pub strong : (a b c : ℕ) → ButThree (k + 4) (λ p. at w p ≡ 0) a b c → (p : ℕ) → p < k + 4 → at w p ≡ 0
  strong = any_three (k + 4) (λ p. at w p ≡ 0) ((p : ℕ) → p < k + 4 → at w p ≡ 0) strict

pub three_independent : (f : FieldMeaning) → FieldLaws f → ThreeIndependent f
three_independent f L w W a b c =
    subst (λ (n : ℕ). Word (systematic f n (size f - 1) 4 (four_entry f)) w → ButThree n (λ p. at w p ≡ 0) a b c → (p : ℕ) → p < n → at w p ≡ 0)
    (sym (four_long f L)) (λ V. strong f L w V a b c) W

pub three_tell_apart : (f : FieldMeaning) → FieldLaws f → ThreeTellApart f
three_tell_apart f L v w V W a b c z =
    same_at (size f + 3) v w V.long W.long
    (λ p h. xor_same (at v p) (at w p)
    (sym (at_plus v w (V.long ∙ sym W.long) p)
    ∙ three_independent f L (plus v w) (sum_is_word (four_times f) (four_times_laws f L) v w V W) a b c
    (λ p l na nb nc.
    at_plus v w (V.long ∙ sym W.long) p ∙ ap (λ (y : ℕ). bit_xor y (at w p)) (z p l na nb nc) ∙ xor_self (at w p)) p h))
