-- The word of a message, the bounds of its sums, and the erased symbol.
use Rattle.std.proofs.Common.{◌≡◌, ℕ, ◌<◌, List, [], ◌∷◌, map, length, set, Some, None, Option, Ok, Result, unwrap_or, sym, refl, ap, ◌∙◌, subst, ap₂, ⊎_elim, lit<, get_or-set_other, get_or-set_same}
use lib.Bits.{bit_xor, xor_self, xor_zero_r}
use Rattle.std.proofs.lemmas.List.{map-set, set-get_or}
use Rattle.std.proofs.lemmas.Bool.{cases_eq}
use Rattle.faults.specs.declared.Fault.{Fault}
use Rattle.fields.specs.Meaning.{FieldMeaning}
use Rattle.fields.specs.Polynomials.{gf8}
use Rattle.codes.specs.Words.{CodeLaws, Generates, Word, Message, Carries, sum, at}
use Rattle.codes.specs.Systematic.{four_entry, four_generator}
use Rattle.codes.proofs.Families.{four_times_laws, four_times_generates}
use Rattle.codes.proofs.Sums.{sum_cong, sum_xor, sum_one, length_build, at_build, same_at}
use Rattle.sample_word.specs.Sample.{sample, Elements, IsSumOfProducts, symbol_of, encoded, row_sum, all_row_sums, erased, filled}
use Rattle.sample_word.proofs.Products.{granted, total_is}
use Rattle.sample_word.proofs.Calls.{gf8_laws}

pub sample_laws : CodeLaws sample
sample_laws = four_times_laws gf8 gf8_laws

pub sample_generates : Generates sample (four_generator gf8)
sample_generates = four_times_generates gf8 gf8_laws

-- ---- the word of a message

-- the sum of the products of a message and a column of the generator
pub symbol_is : {f : FieldMeaning} {m : List ℕ} {p : ℕ} {Gives : ℕ → Result ℕ Fault → Type 0} {r : Result ℕ Fault} → IsSumOfProducts f m Gives r → f ≡ gf8 → Message sample m → p < 11
    → ((i : ℕ) → i < 7 → (y : Result ℕ Fault) → Gives i y → y ≡ Ok (four_generator gf8 i p)) → r ≡ Ok (symbol_of m p)
unfolding symbol_of
symbol_is {f} {m} {p} {Gives} {r} h e M hp given =
    total_is h gf8 7 (λ i. four_generator gf8 i p) e M.long (λ i l. (M.elements i l, sample_generates.elements i p l hp, given i l))

-- the word that carries a message is the message times the generator
times_generator : (m w : List ℕ) → Word sample w → Carries sample w m → w ≡ encoded m
unfolding encoded symbol_of
times_generator m w W C =
    same_at 11 w (encoded m) W.long (length_build 11 (symbol_of m)) (λ p h.
    sample_generates.every_word w W p h
    ∙ sum_cong 7 (λ i. gf8.product (at w i) (four_generator gf8 i p)) (λ i. gf8.product (at m i) (four_generator gf8 i p))
    (λ i l. ap (λ (x : ℕ). gf8.product x (four_generator gf8 i p)) (C i l))
    ∙ sym (at_build 11 (symbol_of m) p h))

pub encoded_word : (m : List ℕ) → Message sample m → Word sample (encoded m) × Carries sample (encoded m) m
encoded_word m M =
    let (w, W, C) = sample_laws.stands m M in
    subst (λ (v : List ℕ). Word sample v × Carries sample v m) (times_generator m w W C) (W, C)

-- a word of eleven that has these symbols
pub laid_out : (m w : List ℕ) → length w ≡ 11 → ((p : ℕ) → p < 11 → at w p ≡ symbol_of m p) → w ≡ encoded m
unfolding encoded
laid_out m w l h = same_at 11 w (encoded m) l (length_build 11 (symbol_of m)) (λ p k. h p k ∙ sym (at_build 11 (symbol_of m) p k))

-- ---- the checks

-- the sum of the products of a word and a row of entries
pub row_sum_is : {f : FieldMeaning} {j : ℕ} {w : List ℕ} {Gives : ℕ → Result ℕ Fault → Type 0} {r : Result ℕ Fault} → IsSumOfProducts f w Gives r → f ≡ gf8 → Elements w → length w ≡ 11 → j < 4
    → ((p : ℕ) → p < 11 → (y : Result ℕ Fault) → Gives p y → y ≡ Ok (four_entry gf8 j p)) → r ≡ Ok (row_sum j w)
unfolding row_sum
row_sum_is {f} {j} {w} {Gives} {r} h e E long hj given =
    total_is h gf8 11 (four_entry gf8 j) e long (λ p l. (E p l, sample_laws.entries j p hj l, given p l))
    ∙ ap Ok
    (sum_cong 11 (λ p. gf8.product (at w p) (four_entry gf8 j p)) (λ p. gf8.product (four_entry gf8 j p) (at w p)) (λ p l.
    gf8_laws.commutes (at w p) (four_entry gf8 j p) (E p l) (sample_laws.entries j p hj l)))

row_zero : (j : ℕ) (w : List ℕ) → Word sample w → j < 4 → row_sum j w ≡ 0
unfolding row_sum
row_zero j w W h = W.checked j h

pub rows_zero : (w : List ℕ) → Word sample w → all_row_sums w ≡ 0 ∷ 0 ∷ 0 ∷ 0 ∷ []
rows_zero w W = rw (row_zero 0 w W (lit< tt), row_zero 1 w W (lit< tt), row_zero 2 w W (lit< tt), row_zero 3 w W (lit< tt)) refl

-- ---- the erasure

some_back : (s : ℕ) (w : List ℕ) → filled s (map Some w) ≡ w
some_back s [] = refl
some_back s (x ∷ w) = ap (λ (xs : List ℕ). x ∷ xs) (some_back s w)

-- a symbol at the erasure
filled_is : (s : ℕ) (w : List ℕ) → filled s (erased w) ≡ set w 3 s
filled_is s w = map-set (λ o. unwrap_or o s) (map Some w) 3 None ∙ ap (λ (xs : List ℕ). set xs 3 s) (some_back s w)

pub filled_back : (s : ℕ) (w : List ℕ) → s ≡ at w 3 → filled s (erased w) ≡ w
filled_back s w e = filled_is s w ∙ ap (set w 3) e ∙ set-get_or w 3 0

module _ (w : List ℕ) (W : Word sample w) where
  zero_there : at (set w 3 0) 3 ≡ 0
  zero_there = get_or-set_same w 3 0 0 (subst (λ (n : ℕ). 3 < n) (sym W.long) (lit< tt))

  zero_elements : Elements (set w 3 0)
  zero_elements p h =
      ⊎_elim
      (λ e. subst (λ (n : ℕ). n < 8) (sym (ap (at (set w 3 0)) e ∙ zero_there)) (lit< tt))
      (λ ne. subst (λ (n : ℕ). n < 8) (sym (get_or-set_other w 3 p 0 0 ne)) (W.elements p h))
      (cases_eq p 3)

  pub held_elements : Elements (filled 0 (erased w))
  held_elements = subst Elements (sym (filled_is 0 w)) zero_elements

  abbrev term : List ℕ → ℕ → ℕ
  term v p = gf8.product (four_entry gf8 0 p) (at v p)

  -- the two sums differ in the term at place 3, where the entry is 1
  one_term : bit_xor (sum 11 (term (set w 3 0))) (sum 11 (term w)) ≡ at w 3
  one_term =
      sym (sum_xor 11 (term (set w 3 0)) (term w))
      ∙ sum_one 11 (λ p. bit_xor (term (set w 3 0) p) (term w p)) 3 (lit< tt) (λ p l ne.
      ap (λ (x : ℕ). bit_xor (gf8.product (four_entry gf8 0 p) x) (term w p)) (get_or-set_other w 3 p 0 0 ne) ∙ xor_self (term w p))
      ∙ ap₂ bit_xor (ap (gf8.product 1) zero_there ∙ gf8_laws.neutral 0 (lit< tt)) (gf8_laws.neutral (at w 3) (W.elements 3 (lit< tt)))

  -- with 0 at the erasure, the first check sums to the erased symbol
  pub worked_back : row_sum 0 (filled 0 (erased w)) ≡ at w 3
  unfolding row_sum
  worked_back =
      ap (row_sum 0) (filled_is 0 w)
      ∙ sym (xor_zero_r (sum 11 (term (set w 3 0))))
      ∙ ap (bit_xor (sum 11 (term (set w 3 0)))) (sym (W.checked 0 (lit< tt)))
      ∙ one_term

  pub restored_is : {held : List ℕ} {received : List (Option ℕ)} {symbol : ℕ} {restored : List ℕ} → received ≡ erased w → held ≡ filled 0 received
      → ◌≡◌ {A = Result ℕ Fault} (Ok symbol) (Ok (row_sum 0 held)) → restored ≡ filled symbol received → restored ≡ w
  restored_is {held} {received} {symbol} {restored} er eh es e =
      let s : symbol ≡ at w 3 = granted symbol (row_sum 0 held) es ∙ ap (row_sum 0) (eh ∙ ap (filled 0) er) ∙ worked_back in
      e ∙ ap (filled symbol) er ∙ filled_back symbol w s
