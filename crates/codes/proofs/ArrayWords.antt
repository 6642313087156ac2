-- The words of an array are the rows of the words of its code, and its generator is the bits of the code's.
use Rattle.std.proofs.Common.{◌≡◌, ℕ, ◌+◌, ◌*◌, ◌/◌, ◌%◌, ◌<◌, Bool, true, false, ltb, List, sym, ap, ◌∙◌, subst, arith}
use Rattle.std.proofs.lemmas.Nat.{div-mul-add, mod-mul-add}
use Rattle.std.proofs.lemmas.Bool.{cond_both}
use Rattle.std.proofs.lemmas.Bool.Decides.{nat_tests}
use Rattle.fields.specs.Meaning.{FieldMeaning, size}
use Rattle.codes.specs.Words.{CodeMeaning, CodeLaws, Generates, Word, sum, at}
use Rattle.codes.specs.Arrays.{bit, array_if, array_fits, array, array_message_place, generated_bit, array_generator, rows_of}
use Rattle.codes.specs.Theorems.{WordsAreRows}
use Rattle.codes.proofs.Sums.{sum_cong, sum_below, sum_grid, sum_swap, length_build, same_at}
use Rattle.codes.proofs.Digits.{bit_below, bit_sum, digit_sum, pack, pack_below, in_grid, product_pack}
use Rattle.codes.proofs.ArrayLaws.{each_column, cell, cells, symbols_of, symbol_is, word_down, last_is, cell_is, word_up, cell_bit, cell_last, place_below}

module _ (m : CodeMeaning) (K : CodeLaws m) where
  abbrev f : FieldMeaning
  f = m.field

  abbrev w : ℕ
  w = m.field.width

  abbrev n : ℕ
  n = m.places

  -- ---- words

  rows_back : (u : List ℕ) → Word (array_if true m) u → (v : List ℕ) × Word m v × (u ≡ rows_of m v)
  rows_back u U = (
    symbols_of m K u,
    V,
    same_at (n * (w + 1)) u (rows_of m (symbols_of m K u)) U.long (length_build (n * (w + 1)) _)
        (in_grid (λ p. at u p ≡ at (rows_of m (symbols_of m K u)) p) n (w + 1) (omega arith)
        (λ i c hi. each_column w (λ c. cell m K u i c ≡ cell m K (rows_of m (symbols_of m K u)) i c) (front i hi)
        (last_is m K u U i hi ∙ sum_cong w _ _ (λ c hc. cell_is m K u U i c hi hc) ∙ sym (cell_last m K (symbols_of m K u) V i hi)) c)),
  )
    where
      V : Word m (symbols_of m K u)
      V = word_down m K u U

      front : (i : ℕ) → i < n → (c : ℕ) → c < w → cell m K u i c ≡ cell m K (rows_of m (symbols_of m K u)) i c
      front i hi c hc = cell_is m K u U i c hi hc ∙ sym (cell_bit m K (symbols_of m K u) V i c hi hc)

  pub words_are_rows : WordsAreRows m
  words_are_rows fits u = (
    λ U. rows_back u (subst (λ (b : Bool). Word (array_if b m) u) fits U),
    λ v V e. subst (λ (b : Bool). Word (array_if b m) u) (sym fits) (subst (Word (array_if true m)) (sym e) (word_up m K v V)),
  )

  -- ---- the generator

  module _ (G : ℕ → ℕ → ℕ) (g : Generates m G) where
    abbrev H : ℕ → ℕ → ℕ
    H = array_generator m G

    abbrev k : ℕ
    k = m.dimension * w

    at_bit : (t r c : ℕ) → c < w → H t (r * (w + 1) + c) ≡ generated_bit m G t r c
    at_bit t r c h = grind (arith, nat_tests, div-mul-add r (w + 1) c, mod-mul-add r (w + 1) c)

    at_last : (t r : ℕ) → H t (r * (w + 1) + w) ≡ sum w (generated_bit m G t r)
    at_last t r = grind (arith, nat_tests, div-mul-add r (w + 1) w, mod-mul-add r (w + 1) w)

    below : (t p : ℕ) → H t p < 2
    below t p =
        cond_both (ltb (p % (w + 1)) w) (generated_bit m G t (p / (w + 1)) (p % (w + 1))) (sum w (generated_bit m G t (p / (w + 1)))) (λ y. y < 2)
        (λ _. bit_below _ _) (λ _. sum_below 1 w (generated_bit m G t (p / (w + 1))) (λ c _. bit_below _ _))

    module _ (u : List ℕ) (U : Word (array_if true m) u) where
      abbrev x : ℕ → ℕ
      x t = at u (array_message_place m t)

      -- message symbol i times an entry of G, bit by bit
      symbol_times : (i r c : ℕ) → i < m.dimension → r < n
          → bit (f.product (at (symbols_of m K u) (m.message_place i)) (G i r)) c
          ≡ sum w (λ b. x (i * w + b) * generated_bit m G (i * w + b) r c)
      symbol_times i r c hi hr =
          let hp : m.message_place i < n = K.within i hi in
          let hg : G i r < size f = g.elements i r hi hr in
          let hb : (b : ℕ) → b < w → cell m K u (m.message_place i) b < 2 = λ b l. cells m K u U (m.message_place i) b hp (omega arith) in
          ap (λ (y : ℕ). bit y c)
          (ap (λ (y : ℕ). f.product y (G i r)) (symbol_is m K u U (m.message_place i) hp)
          ∙ K.field_laws.commutes (pack w (cell m K u (m.message_place i))) (G i r) (pack_below w (cell m K u (m.message_place i)) hb) hg)
          ∙ product_pack f K.field_laws (G i r) (cell m K u (m.message_place i)) c hg hb
          ∙ sum_cong w _ _ (λ b l. cc (div-mul-add i w b l, mod-mul-add i w b l))

      cell_generated : (r : ℕ) → r < n → (c : ℕ) → c < w → cell m K u r c ≡ sum k (λ t. x t * generated_bit m G t r c)
      cell_generated r hr c hc =
          cell_is m K u U r c hr hc
          ∙ ap (λ (y : ℕ). bit y c) (g.every_word (symbols_of m K u) (word_down m K u U) r hr)
          ∙ bit_sum m.dimension (λ i. f.product (at (symbols_of m K u) (m.message_place i)) (G i r)) c
          ∙ sum_cong m.dimension _ _ (λ i hi. symbol_times i r c hi hr)
          ∙ sym (sum_grid m.dimension w (λ t. x t * generated_bit m G t r c))

      last_generated : (r : ℕ) → r < n → cell m K u r w ≡ sum k (λ t. x t * sum w (generated_bit m G t r))
      last_generated r hr =
          last_is m K u U r hr ∙ sum_cong w _ _ (cell_generated r hr)
          ∙ sum_swap w k (λ c t. x t * generated_bit m G t r c)
          ∙ sum_cong k _ _ (λ t ht. sym (digit_sum (x t) w (generated_bit m G t r) (U.elements (array_message_place m t) (place_below m K t ht))))

      every_word : (p : ℕ) → p < n * (w + 1) → at u p ≡ sum k (λ t. x t * H t p)
      every_word =
          in_grid (λ p. at u p ≡ sum k (λ t. x t * H t p)) n (w + 1) (omega arith)
          (λ r c hr.
          each_column w (λ c. cell m K u r c ≡ sum k (λ t. x t * H t (r * (w + 1) + c)))
          (λ c hc. cell_generated r hr c hc ∙ sum_cong k _ _ (λ t _. ap (λ (y : ℕ). x t * y) (sym (at_bit t r c hc))))
          (last_generated r hr ∙ sum_cong k _ _ (λ t _. ap (λ (y : ℕ). x t * y) (sym (at_last t r)))) c)

    either : (b : Bool) → Generates (array_if b m) H
    either true = record { elements = λ t p ht hp. below t p; every_word = every_word }
    either false = record { elements = λ t p ht hp. below t p; every_word = λ u U p hp. absurd (omega arith) }

    pub array_generates : Generates (array m) (array_generator m G)
    array_generates = either (array_fits m)
