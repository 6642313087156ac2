-- The array over a lawful code is lawful: its words are the words of the code, each symbol by its bits and their parity.
use Rattle.std.proofs.Common.{◌≡◌, ℕ, ◌+◌, ◌*◌, ◌/◌, ◌%◌, ◌^◌, ◌<◌, ◌≤◌, Bool, true, false, cond, eqb, ltb, List, [], sym, refl, ap, ◌∙◌, subst, ap₂, ⊎_elim, zero-le, le_refl, mul_comm, mul-zero, div-add-mod', mul-one, add-one, arith, lit<}
use lib.Arith.{digits_lt}
use lib.Bits.{bit_xor, xor_self, xor_zero_r}
use Rattle.std.proofs.lemmas.Nat.{div_below, mod_below, div-mul-add, mod-mul-add, same_from_place}
use Rattle.std.proofs.lemmas.List.{nil_from_length}
use Rattle.std.proofs.lemmas.Bool.{cases_lt, cond-true, cond-false, lt-ltb, le-ltb, cond_both, and_parts, leb-true}
use Rattle.std.proofs.lemmas.Bool.Decides.{nat_tests}
use Rattle.fields.specs.Meaning.{FieldMeaning, FieldLaws, size}
use Rattle.fields.proofs.BitLaws.{bit_laws}
use Rattle.codes.specs.Words.{CodeMeaning, CodeLaws, Word, Message, Carries, sum, at}
use Rattle.codes.specs.Systematic.{unit}
use Rattle.codes.specs.Arrays.{bit, build, row_bit, rows_of, array_places, array_checks, array_dimension, cell_entry, array_entry, array_message_place, array_if, array_fits, array}
use Rattle.codes.proofs.Sums.{xor_same, sum_cong, sum_zero, sum_one, sum_below, sum_grid, length_build, at_build, same_at, then_low, then_high}
use Rattle.codes.proofs.Systematic.{placed, unit_own, unit_other}
use Rattle.codes.proofs.Digits.{bit_below, bit_zero, bit_sum, pack, pack_below, bit_pack, pack_bit, zero_bits, in_grid, product_pack}

sum_next : (n : ℕ) (f : ℕ → ℕ) → sum (n + 1) f ≡ bit_xor (sum n f) (f n)
sum_next n f = ap (λ (m : ℕ). sum m f) (add-one n)

-- bits, of a parity and of a choice
unit_below : (j i : ℕ) → unit j i < 2
unit_below j i = cond_both (eqb j i) 1 0 (λ y. y < 2) (λ _. lit< tt) (λ _. lit< tt)

-- what holds in the columns of the bits and in the last one holds in every column
pub each_column : (w : ℕ) (P : ℕ → Type 0) → ((c : ℕ) → c < w → P c) → P w → (c : ℕ) → c < w + 1 → P c
each_column w P bits last c h = ⊎_elim (λ (l : c < w). bits c l) (λ (l : w ≤ c). let e : w ≡ c = omega arith in subst P e last) (cases_lt c w)

module _ (m : CodeMeaning) (K : CodeLaws m) where
  abbrev f : FieldMeaning
  f = m.field

  abbrev w : ℕ
  w = m.field.width

  abbrev n : ℕ
  n = m.places

  abbrev A : CodeMeaning
  A = array_if true m

  L : FieldLaws f
  L = K.field_laws

  some : 0 < w
  some = L.some_bits

  -- row i, column c
  abbrev pub cell : List ℕ → ℕ → ℕ → ℕ
  cell u i c = at u (i * (w + 1) + c)

  entry_at : (t i c : ℕ) → c < w + 1 → array_entry m t (i * (w + 1) + c) ≡ cell_entry m t i c
  entry_at t i c h = ap₂ (cell_entry m t) (div-mul-add i (w + 1) c h) (mod-mul-add i (w + 1) c h)

  abbrev bit_entry : ℕ → ℕ → ℕ → ℕ
  bit_entry i c s = cond (ltb c w) (bit (f.product (m.entry (s / w) i) (2 ^ c)) (s % w)) 0

  entry_row : (t i c : ℕ) → t < n → cell_entry m t i c ≡ unit t i
  entry_row t i c h = then_low n (λ t. unit t i) (bit_entry i c) t h

  entry_code : (j b i c : ℕ) → b < w → c < w → cell_entry m (n + (j * w + b)) i c ≡ bit (f.product (m.entry j i) (2 ^ c)) b
  entry_code j b i c hb hc = grind (arith, nat_tests, div-mul-add j w b, mod-mul-add j w b)

  entry_last : (s i : ℕ) → cell_entry m (n + s) i w ≡ 0
  entry_last s i = then_high n (λ t. unit t i) (bit_entry i w) s ∙ cond-false (ltb w w) _ 0 (le-ltb w w (le_refl w))

  entry_below : (t i c : ℕ) → cell_entry m t i c < 2
  entry_below t i c = grind (arith, unit_below, bit_below)

  module _ (u : List ℕ) (b2 : (p : ℕ) → p < n * (w + 1) → at u p < 2) where
    cell_below : (i c : ℕ) → i < n → c < w + 1 → cell u i c < 2
    cell_below i c hi hc = b2 (i * (w + 1) + c) (digits_lt hi hc)

    -- a check, row by row
    by_rows : (t : ℕ) → sum (n * (w + 1)) (λ p. array_entry m t p * at u p)
        ≡ sum n (λ i. sum (w + 1) (λ c. cell u i c * cell_entry m t i c))
    by_rows t =
        sum_grid n (w + 1) (λ p. array_entry m t p * at u p)
        ∙ sum_cong n _ _ (λ i hi. sum_cong (w + 1) _ _ (λ c hc.
        ap (λ (e : ℕ). e * cell u i c) (entry_at t i c hc)
        ∙ mul_comm (cell_entry m t i c) (cell u i c)))

    check_row : (t : ℕ) → t < n → sum (n * (w + 1)) (λ p. array_entry m t p * at u p) ≡ bit_xor (sum w (cell u t)) (cell u t w)
    check_row t h =
        by_rows t
        ∙ sum_one n _ t h
        (λ i hi ne. sum_zero (w + 1) _ (λ c hc.
        ap (λ (e : ℕ). cell u i c * e) (entry_row t i c h ∙ unit_other t i ne) ∙ mul-zero (cell u i c)))
        ∙ sum_cong (w + 1) _ (cell u t) (λ c hc.
        ap (λ (e : ℕ). cell u t c * e) (entry_row t t c h ∙ unit_own t) ∙ mul-one (cell u t c))
        ∙ sum_next w (cell u t)

    check_code : (j b : ℕ) → j < m.checks → b < w
        → sum (n * (w + 1)) (λ p. array_entry m (n + (j * w + b)) p * at u p)
        ≡ bit (sum n (λ i. f.product (m.entry j i) (pack w (cell u i)))) b
    check_code j b hj hb =
        by_rows (n + (j * w + b))
        ∙ sum_cong n _ _ (λ i hi.
        sum_next w (λ c. cell u i c * cell_entry m (n + (j * w + b)) i c)
        ∙ ap₂ bit_xor
        (sum_cong w _ _ (λ c hc. ap (λ (e : ℕ). cell u i c * e) (entry_code j b i c hb hc)))
        (ap (λ (e : ℕ). cell u i w * e) (entry_last (j * w + b) i) ∙ mul-zero (cell u i w))
        ∙ xor_zero_r (sum w (λ c. cell u i c * bit (f.product (m.entry j i) (2 ^ c)) b))
        ∙ sym (product_pack f L (m.entry j i) (cell u i) b (K.entries j i hj hi) (λ c hc. cell_below i c hi (omega arith))))
        ∙ sym (bit_sum n (λ i. f.product (m.entry j i) (pack w (cell u i))) b)

  -- ---- from a word of the array to a word of the code

  abbrev pub symbols_of : List ℕ → List ℕ
  symbols_of u = build n (λ i. pack w (cell u i))

  abbrev gathered : List ℕ → List ℕ
  gathered x = build m.dimension (λ i. pack w (λ c. at x (i * w + c)))

  module _ (u : List ℕ) (U : Word A u) where
    pub cells : (i c : ℕ) → i < n → c < w + 1 → cell u i c < 2
    cells = cell_below u U.elements

    symbol_below : (i : ℕ) → i < n → pack w (cell u i) < size f
    symbol_below i hi = pack_below w (cell u i) (λ c hc. cells i c hi (omega arith))

    pub symbol_is : (i : ℕ) → i < n → at (symbols_of u) i ≡ pack w (cell u i)
    symbol_is i hi = at_build n (λ i. pack w (cell u i)) i hi

    pub word_down : Word m (symbols_of u)
    word_down = record {
      long = length_build n (λ i. pack w (cell u i));
      elements = λ i hi. subst (λ (y : ℕ). y < size f) (sym (symbol_is i hi)) (symbol_below i hi);
      checked = λ j hj.
          sum_cong n _ _ (λ i hi. ap (f.product (m.entry j i)) (symbol_is i hi))
          ∙ zero_bits w (sum n (λ i. f.product (m.entry j i) (pack w (cell u i))))
          (sum_below w n _ (λ i hi. L.closed (m.entry j i) (pack w (cell u i)) (K.entries j i hj hi) (symbol_below i hi)))
          (λ b hb. sym (check_code u U.elements j b hj hb) ∙ U.checked (n + (j * w + b)) (omega (arith, digits_lt hj hb)));
    }

    carries_down : (x : List ℕ) → Carries A u x → Carries m (symbols_of u) (gathered x)
    carries_down x cx i hi =
        symbol_is (m.message_place i) (K.within i hi)
        ∙ sum_cong w _ _ (λ c hc. cc (div-mul-add i w c hc, mod-mul-add i w c hc, cx (i * w + c) (digits_lt hi hc)))
        ∙ sym (at_build m.dimension (λ i. pack w (λ c. at x (i * w + c))) i hi)

    -- the last of a row
    pub last_is : (i : ℕ) → i < n → cell u i w ≡ sum w (cell u i)
    last_is i hi = sym (xor_same (sum w (cell u i)) (cell u i w) (sym (check_row u U.elements i hi) ∙ U.checked i (omega arith)))

    pub cell_is : (i c : ℕ) → i < n → c < w → cell u i c ≡ bit (at (symbols_of u) i) c
    cell_is i c hi hc = grind (arith, symbol_is, bit_pack, cells)

  message_down : (x : List ℕ) → Message A x → Message m (gathered x)
  message_down x M = record {
    long = length_build m.dimension (λ i. pack w (λ c. at x (i * w + c)));
    elements = λ i hi.
        subst (λ (y : ℕ). y < size f) (sym (at_build m.dimension (λ i. pack w (λ c. at x (i * w + c))) i hi))
        (pack_below w (λ c. at x (i * w + c)) (λ c hc. M.elements (i * w + c) (digits_lt hi hc)));
  }

  stands_once : (x u v : List ℕ) → Message A x → Word A u → Carries A u x → Word A v → Carries A v x → u ≡ v
  stands_once x u v M U cu V cv = same_at (n * (w + 1)) u v U.long V.long (in_grid (λ p. at u p ≡ at v p) n (w + 1) (omega arith) each)
    where
      same : symbols_of u ≡ symbols_of v
      same =
          K.stands_once (gathered x) (symbols_of u) (symbols_of v) (message_down x M)
          (word_down u U) (carries_down u U x cu) (word_down v V) (carries_down v V x cv)

      front : (i c : ℕ) → i < n → c < w → cell u i c ≡ cell v i c
      front i c hi hc = cell_is u U i c hi hc ∙ ap (λ (l : List ℕ). bit (at l i) c) same ∙ sym (cell_is v V i c hi hc)

      each : (i c : ℕ) → i < n → c < w + 1 → cell u i c ≡ cell v i c
      each i c hi =
          each_column w (λ c. cell u i c ≡ cell v i c) (λ c h. front i c hi h) (last_is u U i hi ∙ sum_cong w _ _ (λ c h. front i c hi h) ∙ sym (last_is v V i hi)) c

  -- ---- from a word of the code to a word of the array

  abbrev spread : List ℕ → ℕ → ℕ → ℕ
  spread v i = row_bit w (at v i)

  module _ (v : List ℕ) (V : Word m v) where
    spread_below : (i c : ℕ) → spread v i c < 2
    spread_below i c =
        cond_both (ltb c w) (bit (at v i) c) (sum w (bit (at v i))) (λ y. y < 2)
        (λ _. bit_below (at v i) c) (λ _. sum_below 1 w (bit (at v i)) (λ b _. bit_below (at v i) b))

    cell_spread : (i c : ℕ) → i < n → c < w + 1 → cell (rows_of m v) i c ≡ spread v i c
    cell_spread i c hi hc =
        at_build (n * (w + 1)) (λ p. spread v (p / (w + 1)) (p % (w + 1))) (i * (w + 1) + c) (digits_lt hi hc)
        ∙ ap₂ (spread v) (div-mul-add i (w + 1) c hc) (mod-mul-add i (w + 1) c hc)

    pub cell_bit : (i c : ℕ) → i < n → c < w → cell (rows_of m v) i c ≡ bit (at v i) c
    cell_bit i c hi hc = cell_spread i c hi (omega arith) ∙ cond-true (ltb c w) _ _ (lt-ltb c w hc)

    pub cell_last : (i : ℕ) → i < n → cell (rows_of m v) i w ≡ sum w (bit (at v i))
    cell_last i hi = cell_spread i w hi (omega arith) ∙ cond-false (ltb w w) _ _ (le-ltb w w (le_refl w))

    elements : (p : ℕ) → p < n * (w + 1) → at (rows_of m v) p < 2
    elements p h =
        subst (λ (y : ℕ). y < 2) (sym (at_build (n * (w + 1)) (λ p. spread v (p / (w + 1)) (p % (w + 1))) p h)) (spread_below (p / (w + 1)) (p % (w + 1)))

    symbol_back : (i : ℕ) → i < n → pack w (cell (rows_of m v) i) ≡ at v i
    symbol_back i hi =
        sum_cong w _ _ (λ c hc. ap (λ (y : ℕ). y * 2 ^ c) (cell_bit i c hi hc)) ∙ pack_bit w (at v i) (V.elements i hi)

    checked : (t : ℕ) → t < n + m.checks * w → sum (n * (w + 1)) (λ p. array_entry m t p * at (rows_of m v) p) ≡ 0
    checked =
        placed (λ t. sum (n * (w + 1)) (λ p. array_entry m t p * at (rows_of m v) p) ≡ 0) n (m.checks * w)
        (λ t h.
        check_row (rows_of m v) elements t h
        ∙ ap₂ bit_xor (sum_cong w _ _ (λ c hc. cell_bit t c h hc)) (cell_last t h)
        ∙ xor_self (sum w (bit (at v t))))
        (in_grid (λ s. sum (n * (w + 1)) (λ p. array_entry m (n + s) p * at (rows_of m v) p) ≡ 0) m.checks w some
        (λ j b hj hb.
        check_code (rows_of m v) elements j b hj hb
        ∙ ap (λ (y : ℕ). bit y b) (sum_cong n _ _ (λ i hi. ap (f.product (m.entry j i)) (symbol_back i hi)) ∙ V.checked j hj)
        ∙ bit_zero b))

    pub word_up : Word A (rows_of m v)
    word_up = record { long = length_build (n * (w + 1)) _; elements = elements; checked = checked }

    carries_up : (x : List ℕ) → Message A x → Carries m v (gathered x) → Carries A (rows_of m v) x
    carries_up x M cx i h =
        let hq : i / w < m.dimension = div_below i w m.dimension some h in
        let hr : i % w < w = mod_below i w some in
        cell_bit (m.message_place (i / w)) (i % w) (K.within (i / w) hq) hr
        ∙ ap (λ (y : ℕ). bit y (i % w)) (cx (i / w) hq ∙ at_build m.dimension (λ i. pack w (λ c. at x (i * w + c))) (i / w) hq)
        ∙ bit_pack w (λ c. at x (i / w * w + c)) (λ c hc. M.elements (i / w * w + c) (digits_lt hq hc)) (i % w) hr
        ∙ ap (at x) (div-add-mod' i w)

  stands : (x : List ℕ) → Message A x → (u : List ℕ) × Word A u × Carries A u x
  stands x M =
      let (v, V, cv) = K.stands (gathered x) (message_down x M) in
      (rows_of m v, word_up v V, carries_up v V x M cv)

  pub place_below : (i : ℕ) → i < array_dimension m → array_message_place m i < array_places m
  place_below i h =
      let hr : i % w < w = mod_below i w some in
      digits_lt (K.within (i / w) (div_below i w m.dimension some h)) (omega arith)

  distinct : (i j : ℕ) → i < array_dimension m → j < array_dimension m → array_message_place m i ≡ array_message_place m j → i ≡ j
  distinct i j hi hj e =
      let ri : i % w < w = mod_below i w some in
      let rj : j % w < w = mod_below j w some in
      let (p, q) = same_from_place (m.message_place (i / w)) (i % w) (m.message_place (j / w)) (j % w) (w + 1) (omega arith) (omega arith) e in
      let r = K.distinct (i / w) (j / w) (div_below i w m.dimension some hi) (div_below j w m.dimension some hj) p in
      cc (div-add-mod' i w, div-add-mod' j w)

  whole : array_places m ≤ 512 → array_checks m ≤ 96 → CodeLaws A
  whole h c = record {
    field_laws = bit_laws;
    few_places = h;
    few_checks = c;
    entries = λ t p ht hp. entry_below t (p / (w + 1)) (p % (w + 1));
    within = place_below;
    distinct = distinct;
    stands = stands;
    stands_once = stands_once;
  }

  none : CodeLaws (array_if false m)
  none = record {
    field_laws = bit_laws;
    few_places = zero-le;
    few_checks = zero-le;
    entries = λ t p ht hp. absurd (omega arith);
    within = λ i h. absurd (omega arith);
    distinct = λ i j hi hj e. absurd (omega arith);
    stands = λ x M. ([], record { long = refl; elements = λ p h. absurd (omega arith); checked = λ j h. refl }, λ i h. absurd (omega arith));
    stands_once = λ x u v M U cu V cv. nil_from_length u U.long ∙ sym (nil_from_length v V.long);
  }

  whole_or_none : (b : Bool) → (b ≡ true → (array_places m ≤ 512) × (array_checks m ≤ 96)) → CodeLaws (array_if b m)
  whole_or_none true h = whole (h refl).0 (h refl).1
  whole_or_none false h = none

  pub fits_is : array_fits m ≡ true → (array_places m ≤ 512) × (array_checks m ≤ 96)
  fits_is e = grind (arith, and_parts, leb-true)

  pub array_laws : CodeLaws (array m)
  array_laws = whole_or_none (array_fits m) fits_is
