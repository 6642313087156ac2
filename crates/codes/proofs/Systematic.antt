-- A code whose message is its first k places, and whose last r columns are the unit columns, is lawful.
use Rattle.std.proofs.Common.{◌≡◌, ◌≢◌, ℕ, ◌+◌, ◌-◌, ◌<◌, ◌≤◌, eqb, List, sym, refl, ap, ◌∙◌, subst, ap₂, ⊎_elim, add-sub_of_le, arith}
use lib.Bits.{bit_xor, xor_self}
use Rattle.std.proofs.lemmas.Bool.{cases_lt, cond-true, cond-false, cond_both, eq-eqb, ne_eqb}
use Rattle.std.proofs.lemmas.Bool.Decides.{nat_tests}
use Rattle.fields.specs.Meaning.{FieldMeaning, FieldLaws, size}
use Rattle.fields.proofs.Identities.{zero_times, times_zero, times_one, one_below, zero_below}
use Rattle.codes.specs.Words.{CodeMeaning, CodeLaws, Generates, Word, Message, Carries, sum, at}
use Rattle.codes.specs.Systematic.{unit}
use Rattle.codes.specs.Arrays.{build}
use Rattle.codes.proofs.Sums.{xor_same, sum_cong, sum_below, sum_one, sum_split, length_build, at_build, same_at, then_at, then_low, then_high}

abbrev pub systematic : FieldMeaning → ℕ → ℕ → ℕ → (ℕ → ℕ → ℕ) → CodeMeaning
systematic f n k r e = record { field = f; places = n; checks = r; dimension = k; entry = e; message_place = λ i. i }

-- the sum of check j over the message
abbrev pub tail_of : FieldMeaning → ℕ → (ℕ → ℕ → ℕ) → List ℕ → ℕ → ℕ
tail_of f k e x j = sum k (λ p. f.product (e j p) (at x p))

pub record Tailed (f : FieldMeaning) (k r : ℕ) (e : ℕ → ℕ → ℕ) : Type 0 where
  pub bounds : (j p : ℕ) → j < r → p < k + r → e j p < size f
  pub own : (j : ℕ) → j < r → e j (k + j) ≡ 1
  pub other : (j i : ℕ) → j < r → i < r → (i ≢ j) → e j (k + i) ≡ 0

-- every place is in the message, or a number behind it
pub placed : (P : ℕ → Type 0) (k r : ℕ) → ((p : ℕ) → p < k → P p) → ((i : ℕ) → i < r → P (k + i)) → (p : ℕ) → p < k + r → P p
placed P k r low high p h =
    ⊎_elim (low p) (λ (l : k ≤ p). subst P (add-sub_of_le l) (high (p - k) (omega arith))) (cases_lt p k)

-- a generator that is the same at every message symbol
pub same_generates : (m : CodeMeaning) (G H : ℕ → ℕ → ℕ) → ((i p : ℕ) → i < m.dimension → G i p ≡ H i p) → Generates m G → Generates m H
same_generates m G H same g = record {
  elements = λ i p hi hp. subst (λ (y : ℕ). y < size m.field) (same i p hi) (g.elements i p hi hp);
  every_word = λ w W p hp.
      g.every_word w W p hp ∙ sum_cong m.dimension _ _ (λ i hi. ap (m.field.product (at w (m.message_place i))) (same i p hi));
}

-- ---- unit columns

pub unit_own : (j : ℕ) → unit j j ≡ 1
unit_own j = cond-true (eqb j j) 1 0 (eq-eqb j j refl)

pub unit_other : (j i : ℕ) → (i ≢ j) → unit j i ≡ 0
unit_other j i ne = cond-false (eqb j i) 1 0 (ne_eqb j i (λ q. ne (sym q)))

pub unit_below : (f : FieldMeaning) → FieldLaws f → (j i : ℕ) → unit j i < size f
unit_below f L j i = cond_both (eqb j i) 1 0 (λ y. y < size f) (λ _. one_below f L) (λ _. zero_below f L)

module _ (f : FieldMeaning) (L : FieldLaws f) (k r : ℕ) (e : ℕ → ℕ → ℕ) (t : Tailed f k r e) where
  -- check j of any list of elements
  pub check_is : (w : List ℕ) → ((p : ℕ) → p < k + r → at w p < size f) → (j : ℕ) → j < r
      → sum (k + r) (λ p. f.product (e j p) (at w p)) ≡ bit_xor (tail_of f k e w j) (at w (k + j))
  check_is w b j h =
      let only = sum_one r (λ i. f.product (e j (k + i)) (at w (k + i))) j h (λ i l ne. cc (t.other j i h l ne, zero_times f L (at w (k + i)) (b (k + i) (omega arith)))) in
      cc (sum_split k r (λ p. f.product (e j p) (at w p)), only, t.own j h, L.neutral (at w (k + j)) (b (k + j) (omega arith)))

  -- what stands behind the message
  pub tail_is : (w : List ℕ) → Word (systematic f (k + r) k r e) w → (j : ℕ) → j < r → at w (k + j) ≡ tail_of f k e w j
  tail_is w W j h = sym (xor_same (tail_of f k e w j) (at w (k + j)) (sym (check_is w W.elements j h) ∙ W.checked j h))

  tail_below : (x : List ℕ) → ((p : ℕ) → p < k → at x p < size f) → (j : ℕ) → j < r → tail_of f k e x j < size f
  tail_below x b j h = grind (arith, sum_below, L.closed, t.bounds)

  abbrev filled : List ℕ → ℕ → ℕ
  filled x = then_at k (at x) (tail_of f k e x)

  abbrev word_of : List ℕ → List ℕ
  word_of x = build (k + r) (filled x)

  low_is : (x : List ℕ) (p : ℕ) → p < k → at (word_of x) p ≡ at x p
  low_is x p h = at_build (k + r) (filled x) p (omega arith) ∙ then_low k (at x) (tail_of f k e x) p h

  high_is : (x : List ℕ) (j : ℕ) → j < r → at (word_of x) (k + j) ≡ tail_of f k e x j
  high_is x j h = at_build (k + r) (filled x) (k + j) (omega arith) ∙ then_high k (at x) (tail_of f k e x) j

  stands : (x : List ℕ) → Message (systematic f (k + r) k r e) x
      → (w : List ℕ) × Word (systematic f (k + r) k r e) w × Carries (systematic f (k + r) k r e) w x
  stands x m = (
    word_of x,
    record {
      long = length_build (k + r) (filled x);
      elements = elements;
      checked = λ j h.
          check_is (word_of x) elements j h
          ∙ ap₂ bit_xor (sum_cong k _ _ (λ p l. ap (f.product (e j p)) (low_is x p l))) (high_is x j h)
          ∙ xor_self (tail_of f k e x j);
    },
    low_is x,
  )
    where
      elements : (p : ℕ) → p < k + r → at (word_of x) p < size f
      elements =
          placed (λ p. at (word_of x) p < size f) k r
          (λ p l. subst (λ (y : ℕ). y < size f) (sym (low_is x p l)) (m.elements p l))
          (λ j l. subst (λ (y : ℕ). y < size f) (sym (high_is x j l)) (tail_below x m.elements j l))

  stands_once : (x v w : List ℕ) → Message (systematic f (k + r) k r e) x
      → Word (systematic f (k + r) k r e) v → Carries (systematic f (k + r) k r e) v x
      → Word (systematic f (k + r) k r e) w → Carries (systematic f (k + r) k r e) w x → v ≡ w
  stands_once x v w m V cv W cw =
      same_at (k + r) v w V.long W.long
      (placed (λ p. at v p ≡ at w p) k r
      (λ p l. cv p l ∙ sym (cw p l))
      (λ j l. tail_is v V j l ∙ sum_cong k _ _ (λ p m. ap (f.product (e j p)) (cv p m ∙ sym (cw p m))) ∙ sym (tail_is w W j l)))

  laws : k + r ≤ 512 → r ≤ 96 → CodeLaws (systematic f (k + r) k r e)
  laws n c = record {
    field_laws = L;
    few_places = n;
    few_checks = c;
    entries = t.bounds;
    within = λ i h. omega arith;
    distinct = λ i j hi hj q. q;
    stands = stands;
    stands_once = stands_once;
  }

  pub systematic_laws : (n : ℕ) → n ≡ k + r → n ≤ 512 → r ≤ 96 → CodeLaws (systematic f n k r e)
  systematic_laws n q h c = grind (arith, laws)

  -- the identity, and the tails transposed
  pub generator : ℕ → ℕ → ℕ
  generator i = then_at k (unit i) (λ j. e j i)

  generator_elements : (i p : ℕ) → i < k → p < k + r → generator i p < size f
  unfolding generator
  generator_elements i p hi = grind (arith, nat_tests, unit_below, t.bounds)

  times_generator : (w : List ℕ) → Word (systematic f (k + r) k r e) w → (p : ℕ) → p < k + r → at w p ≡ sum k (λ i. f.product (at w i) (generator i p))
  unfolding generator
  times_generator w W =
      placed (λ p. at w p ≡ sum k (λ i. f.product (at w i) (generator i p))) k r
      (λ p l.
      sym
      (sum_one k (λ i. f.product (at w i) (generator i p)) p l
      (λ i m ne.
      ap (f.product (at w i)) (then_low k (unit i) (λ j. e j i) p l ∙ unit_other i p (λ q. ne (sym q))) ∙ times_zero f L (at w i) (W.elements i (omega arith)))
      ∙ ap (f.product (at w p)) (then_low k (unit p) (λ j. e j p) p l ∙ unit_own p) ∙ times_one f L (at w p) (W.elements p (omega arith))))
      (λ j l.
      tail_is w W j l
      ∙ sum_cong k _ _ (λ i m.
      L.commutes (e j i) (at w i) (t.bounds j i l (omega arith)) (W.elements i (omega arith))
      ∙ ap (f.product (at w i)) (sym (then_high k (unit i) (λ j. e j i) j))))

  pub systematic_generates : (n : ℕ) → n ≡ k + r → Generates (systematic f n k r e) (λ i. then_at k (unit i) (λ j. e j i))
  unfolding generator
  systematic_generates n q =
      subst (λ (n : ℕ). Generates (systematic f n k r e) (λ i. then_at k (unit i) (λ j. e j i))) (sym q)
      (record { elements = generator_elements; every_word = times_generator })
