-- From corrections to the words that agree with what is held.
use Rattle.std.proofs.Common.{◌≡◌, ◌≢◌, ℕ, ◌<◌, true, false, List, length, Some, None, Option, sym, ap, ◌∙◌, subst, ap₂, ⊎_elim, arith, pow_pos}
use lib.Bits.{bit_xor, xor_assoc, xor_self, xor_zero_r, xor_lt}
use Rattle.fields.specs.Meaning.{size}
use Rattle.fields.proofs.Identities.{one_below, zero_below}
use Rattle.codes.specs.Words.{CodeMeaning, CodeLaws, Word, sum, at}
use Rattle.codes.specs.Arrays.{build}
use Rattle.codes.proofs.Sums.{sum_cong, sum_xor, length_build, at_build, same_at}
use Rattle.erasures.specs.Agreement.{State, held, holding, Agrees, NoWordAgrees, TheOneWord, TwoWords}
use Rattle.erasures.specs.Elimination.{times, Times, Corrects, received, Determined, Contradicted, Eliminated}
use Rattle.erasures.proofs.Products.{times_is, times_laws}
use Rattle.erasures.proofs.Correcting.{option_cases, none_corrects, row_corrects, only_corrects, chosen, chosen_there, chosen_corrects}
use Rattle.erasures.proofs.Agreeing.{held_some, agree_or_differ}

-- x + (x + y) is y
xor_twice : (x y : ℕ) → bit_xor x (bit_xor x y) ≡ y
xor_twice x y = sym (xor_assoc x x y) ∙ ap (λ (z : ℕ). bit_xor z y) (xor_self x)

-- what is received is an element
pub received_below : (m : CodeMeaning) (cells : List (Option ℕ)) (p : ℕ) → received (held m cells p) < size m.field
received_below m cells p =
    ⊎_elim (λ e. subst (λ (o : Option ℕ). received o < size m.field) (sym e) (pow_pos m.field.width))
    (λ w. subst (λ (o : Option ℕ). received o < size m.field) (sym w.1) (held_some m cells p w.0 w.1).1) (option_cases (held m cells p))

module _ (m : CodeMeaning) (C : CodeLaws m) (cells : List (Option ℕ)) (s : ℕ → ℕ)
    (syndrome : (j : ℕ) → j < m.checks → s j ≡ sum m.places (λ p. times m.field (m.entry j p) (received (held m cells p)))) where
  abbrev state : State
  state = held m cells

  bounded : (p v : ℕ) → state p ≡ Some v → (p < m.places) × (v < size m.field)
  bounded p v e = let w = held_some m cells p v e in (w.0, w.1)

  T : Times m.field.width (times m.field)
  T = times_laws m.field C.field_laws

  abbrev Correction : (ℕ → ℕ) → Type 0
  Correction = Corrects m.field.width (times m.field) m.checks m.places (λ p j. m.entry j p) s state

  received_held : (p v : ℕ) → state p ≡ Some v → received (state p) ≡ v
  received_held p v e = ap received e

  -- the checks of a list of elements, from those of what it adds to the received symbols
  checks_of : (v : List ℕ) → ((p : ℕ) → p < m.places → at v p < size m.field) → (j : ℕ) → j < m.checks
      → sum m.places (λ p. times m.field (m.entry j p) (bit_xor (received (state p)) (at v p)))
      ≡ bit_xor (s j) (sum m.places (λ p. m.field.product (m.entry j p) (at v p)))
  checks_of v b j l =
      sum_cong m.places _ _ (λ p o. T.distributes (m.entry j p) (received (state p)) (at v p))
      ∙ sum_xor m.places (λ p. times m.field (m.entry j p) (received (state p))) (λ p. times m.field (m.entry j p) (at v p))
      ∙ ap₂ bit_xor (sym (syndrome j l))
      (sum_cong m.places _ _ (λ p o. times_is m.field C.field_laws (m.entry j p) (at v p) (C.entries j p l o) (b p o)))

  -- a word that agrees differs from the received symbols by a correction
  word_corrects : (v : List ℕ) → Word m v → Agrees (holding state) v → Correction (λ p. bit_xor (received (state p)) (at v p))
  word_corrects v V A = record {
    elements = λ p l. xor_lt m.field.width (received (state p)) (at v p) (received_below m cells p) (V.elements p l);
    zero_where_held = λ p u l e. ap₂ bit_xor (received_held p u e) (A p u e) ∙ xor_self u;
    gives = λ j l. checks_of v V.elements j l ∙ ap (bit_xor (s j)) (V.checked j l) ∙ xor_zero_r (s j);
  }

  -- and a list that does so is a word that agrees
  module _ (v : List ℕ) (long : length v ≡ m.places) (X : Correction (λ p. bit_xor (received (state p)) (at v p))) where
    corrected_elements : (p : ℕ) → p < m.places → at v p < size m.field
    corrected_elements p l =
        subst (λ (y : ℕ). y < size m.field) (xor_twice (received (state p)) (at v p))
        (xor_lt m.field.width (received (state p)) (bit_xor (received (state p)) (at v p)) (received_below m cells p) (X.elements p l))

    corrected_word : Word m v
    corrected_word = record {
      long = long;
      elements = corrected_elements;
      checked = λ j l.
          sym (xor_twice (s j) (sum m.places (λ p. m.field.product (m.entry j p) (at v p))))
          ∙ ap (bit_xor (s j)) (sym (checks_of v corrected_elements j l) ∙ X.gives j l) ∙ xor_self (s j);
    }

    corrected_agrees : Agrees (holding state) v
    corrected_agrees p u e =
        sym (xor_twice (received (state p)) (at v p)) ∙ ap (bit_xor (received (state p))) (X.zero_where_held p u (bounded p u e).0 e)
        ∙ xor_zero_r (received (state p)) ∙ received_held p u e

  -- only the symbols at the n places count
  correction_same : (x y : ℕ → ℕ) → ((p : ℕ) → p < m.places → x p ≡ y p) → Correction x → Correction y
  correction_same x y same X = record {
    elements = λ p l. subst (λ (z : ℕ). z < size m.field) (same p l) (X.elements p l);
    zero_where_held = λ p v l e. sym (same p l) ∙ X.zero_where_held p v l e;
    gives = λ j l. sum_cong m.places _ _ (λ p o. ap (times m.field (m.entry j p)) (sym (same p o))) ∙ X.gives j l;
  }

  module _ (e : ℕ → ℕ → ℕ) (t : ℕ → ℕ) (pivot : ℕ → Option ℕ) (undetermined : Option ℕ)
      (E : Eliminated m.field m.checks (λ p j. m.entry j p) s state m.places e t pivot undetermined)
      (low : (j : ℕ) → j < m.checks → s j < size m.field) where
    pub agree_none : Contradicted m.checks t pivot true → NoWordAgrees m (holding state)
    agree_none (i, l, none, ne) v V A =
        none_corrects m.field.width (times m.field) T m.checks m.places (λ p j. m.entry j p) s state
        e t pivot E.reduced low i l none ne _ (word_corrects v V A)

    -- z has what is held, and the sums of the rows at the places that they are assigned to
    pub agree_one : (z : List ℕ) → length z ≡ m.places → ((p v : ℕ) → state p ≡ Some v → at z p ≡ v)
        → ((i p : ℕ) → i < m.checks → pivot i ≡ Some p → at z p ≡ t i)
        → Contradicted m.checks t pivot false → Determined m.checks state m.places pivot None → TheOneWord m (holding state) z
    agree_one z long holds is unused full = record {
      word = corrected_word z long X;
      agrees = corrected_agrees z long X;
      others_differ = λ v V ne.
          ⊎_elim
          (λ A. absurd (ne (same_at m.places v z V.long long (same v V (λ p u e. A p u (bounded p u e).0 e)))))
          (λ d. d) (agree_or_differ state v m.places);
    }
      where
        X : Correction (λ p. bit_xor (received (state p)) (at z p))
        X =
            row_corrects m.field.width (times m.field) T m.checks m.places (λ p j. m.entry j p) s state
            e t pivot E.reduced low full (λ p. bit_xor (received (state p)) (at z p))
            (λ p v l e. ap₂ bit_xor (received_held p v e) (holds p v e) ∙ xor_self v)
            (λ i p l q. ap (λ (o : Option ℕ). bit_xor (received o) (at z p)) (E.reduced.seen i p l q).1 ∙ is i p l q) unused

        same : (v : List ℕ) → Word m v → Agrees (holding state) v → (p : ℕ) → p < m.places → at v p ≡ at z p
        same v V A p l =
            sym (xor_twice (received (state p)) (at v p))
            ∙ ap (bit_xor (received (state p)))
            (only_corrects m.field.width (times m.field) T m.checks m.places (λ p j. m.entry j p) s state
            e t pivot E.reduced low full _ _ (word_corrects v V A) X p l)
            ∙ xor_twice (received (state p)) (at z p)

    -- a lost place f that no row is assigned to: a word that agrees for each element b, which it has there
    module _ (f : ℕ) (within : f < m.places) (lost : state f ≡ None) (none : (i : ℕ) → i < m.checks → pivot i ≢ Some f)
        (unused : Contradicted m.checks t pivot false) (b : ℕ) (small : b < size m.field) where
      choice : ℕ → ℕ
      choice =
          chosen m.field.width (times m.field) T m.checks m.places (λ p j. m.entry j p) s state
          e t pivot E.reduced low f within lost none b small

      abbrev word_with : List ℕ
      word_with = build m.places (λ p. bit_xor (received (state p)) (choice p))

      long_with : length word_with ≡ m.places
      long_with = length_build m.places (λ p. bit_xor (received (state p)) (choice p))

      back : (p : ℕ) → p < m.places → bit_xor (received (state p)) (at word_with p) ≡ choice p
      back p l =
          ap (bit_xor (received (state p))) (at_build m.places (λ p. bit_xor (received (state p)) (choice p)) p l)
          ∙ xor_twice (received (state p)) (choice p)

      with_corrects : Correction (λ p. bit_xor (received (state p)) (at word_with p))
      unfolding choice
      with_corrects =
          correction_same choice _ (λ p l. sym (back p l))
          (chosen_corrects m.field.width (times m.field) T m.checks m.places (λ p j. m.entry j p) s state
          e t pivot E.reduced low f within lost none b small unused)

      with_there : at word_with f ≡ b
      unfolding choice
      with_there =
          at_build m.places (λ p. bit_xor (received (state p)) (choice p)) f within
          ∙ ap (λ (o : Option ℕ). bit_xor (received o) (choice f)) lost
          ∙ chosen_there m.field.width (times m.field) T m.checks m.places (λ p j. m.entry j p) s state
          e t pivot E.reduced low f within lost none b small

    pub agree_several : Contradicted m.checks t pivot false → (f : ℕ) → Determined m.checks state m.places pivot (Some f) → TwoWords m (holding state)
    agree_several unused f (within, lost, none) =
        let zero = zero_below m.field C.field_laws in
        let one = one_below m.field C.field_laws in
        record {
          one = word_with f within lost none unused 0 zero;
          other = word_with f within lost none unused 1 one;
          one_word = corrected_word _ (long_with f within lost none unused 0 zero) (with_corrects f within lost none unused 0 zero);
          other_word = corrected_word _ (long_with f within lost none unused 1 one) (with_corrects f within lost none unused 1 one);
          one_agrees = corrected_agrees _ (long_with f within lost none unused 0 zero) (with_corrects f within lost none unused 0 zero);
          other_agrees = corrected_agrees _ (long_with f within lost none unused 1 one) (with_corrects f within lost none unused 1 one);
          apart = λ q.
              let no : ◌≡◌ {A = ℕ} 0 1 = sym (with_there f within lost none unused 0 zero) ∙ ap (λ (w : List ℕ). at w f) q ∙ with_there f within lost none unused 1 one in
              omega arith;
        }
