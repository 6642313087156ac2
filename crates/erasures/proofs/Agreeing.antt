-- What a cell counts for, and the words that agree with what is held.
use Rattle.std.proofs.Common.{◌≡◌, ◌≢◌, ℕ, zero, suc, ◌<◌, ◌≤◌, ◌⊎◌, List, get_or, Some, None, Option, sym, refl, ap, ◌∙◌, inl, inr, ⊎_elim, arith}
use Rattle.std.proofs.lemmas.Bool.{cases_eq, cases_lt}
use Rattle.std.proofs.lemmas.Bool.Decides.{nat_tests}
use Rattle.fields.specs.Meaning.{size}
use Rattle.codes.specs.Words.{CodeMeaning, Word, at}
use Rattle.codes.proofs.Sums.{same_at}
use Rattle.erasures.specs.Agreement.{State, held, element_of, Holding, holding, Agrees, Differs, NoWordAgrees, TheOneWord, TwoWords}
use Rattle.erasures.proofs.Reducing.{some_none, some_some}
use Rattle.erasures.proofs.Correcting.{option_cases}

element_some : (q : ℕ) (o : Option ℕ) (v : ℕ) → element_of q o ≡ Some v → (v < q) × (o ≡ Some v)
element_some q None v e = cc
element_some q (Some u) v e = grind (arith, nat_tests)

module _ (m : CodeMeaning) (cells : List (Option ℕ)) where
  pub held_past : (p : ℕ) → m.places ≤ p → held m cells p ≡ None
  unfolding held
  held_past p l = grind (arith, nat_tests)

  pub held_some : (p v : ℕ) → held m cells p ≡ Some v → (p < m.places) × (v < size m.field) × (get_or cells p None ≡ Some v)
  unfolding held
  held_some p v e =
      ⊎_elim
      (λ l. let w = element_some (size m.field) (get_or cells p None) v (grind (arith, nat_tests)) in (l, w.0, w.1))
      (λ l. absurd (some_none e (held_past p l))) (cases_lt p m.places)

-- only the cell of the place counts
pub held_same : (m : CodeMeaning) (xs ys : List (Option ℕ)) (p : ℕ) → get_or xs p None ≡ get_or ys p None → held m xs p ≡ held m ys p
unfolding held
held_same m xs ys p e = rw e refl

-- the places below n, looked through
pub agree_or_differ : (state : State) (w : List ℕ) (n : ℕ) → ((p v : ℕ) → p < n → state p ≡ Some v → at w p ≡ v) ⊎ Differs (holding state) w
agree_or_differ state w zero = inl (λ p v l e. absurd (omega arith))
agree_or_differ state w (suc n) = ⊎_elim (λ below. here below (option_cases (state n))) inr (agree_or_differ state w n)
  where
    last : ((p v : ℕ) → p < n → state p ≡ Some v → at w p ≡ v) → ((v : ℕ) → state n ≡ Some v → at w n ≡ v)
        → (p v : ℕ) → p < suc n → state p ≡ Some v → at w p ≡ v
    last below at_n p v l e = ⊎_elim (λ q. ap (at w) q ∙ at_n v (ap state (sym q) ∙ e)) (λ q. below p v (omega arith) e) (cases_eq p n)

    here : ((p v : ℕ) → p < n → state p ≡ Some v → at w p ≡ v) → (state n ≡ None) ⊎ ((x : ℕ) × (state n ≡ Some x))
        → ((p v : ℕ) → p < suc n → state p ≡ Some v → at w p ≡ v) ⊎ Differs (holding state) w
    here below (inl z) = inl (last below (λ v e. absurd (some_none e z)))
    here below (inr (x, z)) =
        ⊎_elim (λ same. inl (last below (λ v e. same ∙ some_some z e))) (λ other. inr (n, (x, z, other))) (cases_eq (at w n) x)

-- symbol by symbol
same_or_not : (v w : List ℕ) (n : ℕ) → ((p : ℕ) → p < n → at v p ≡ at w p) ⊎ ((p : ℕ) × (at v p ≢ at w p))
same_or_not v w zero = inl (λ p l. absurd (omega arith))
same_or_not v w (suc n) =
    ⊎_elim
    (λ below.
    ⊎_elim (λ e. inl (λ p l. ⊎_elim (λ q. ap (at v) q ∙ e ∙ ap (at w) (sym q)) (λ q. below p (omega arith)) (cases_eq p n))) (λ ne. inr (n, ne))
    (cases_eq (at v n) (at w n)))
    inr (same_or_not v w n)

module _ (m : CodeMeaning) (holds : Holding) where
  -- no other word agrees
  pub only_word : (v w : List ℕ) → TheOneWord m holds w → Word m v → Agrees holds v → v ≡ w
  only_word v w O V A =
      ⊎_elim (same_at m.places v w V.long O.word.long)
      (λ d. absurd (let x = O.others_differ v V (λ q. d.1 (ap (λ (u : List ℕ). at u d.0) q)) in x.1.2 (A x.0 x.1.0 x.1.1)))
      (same_or_not v w m.places)

  pub one_not_none : (w : List ℕ) → TheOneWord m holds w → NoWordAgrees m holds → ⊥
  one_not_none w O N = N w O.word O.agrees

  pub one_not_two : (w : List ℕ) → TheOneWord m holds w → TwoWords m holds → ⊥
  one_not_two w O T =
      T.apart (only_word T.one w O T.one_word T.one_agrees ∙ sym (only_word T.other w O T.other_word T.other_agrees))

  pub two_not_none : TwoWords m holds → NoWordAgrees m holds → ⊥
  two_not_none T N = N T.one T.one_word T.one_agrees

-- the same places hold the same
module _ (m : CodeMeaning) (A B : Holding) (to : (p v : ℕ) → A p v → B p v) (from : (p v : ℕ) → B p v → A p v) where
  pub same_no_word : NoWordAgrees m A → NoWordAgrees m B
  same_no_word N w W a = N w W (λ p v h. a p v (to p v h))

  pub same_one_word : (w : List ℕ) → TheOneWord m A w → TheOneWord m B w
  same_one_word w O = record {
    word = O.word;
    agrees = λ p v h. O.agrees p v (from p v h);
    others_differ = λ v V ne. let d = O.others_differ v V ne in (d.0, (d.1.0, to d.0 d.1.0 d.1.1, d.1.2));
  }

  pub same_two_words : TwoWords m A → TwoWords m B
  same_two_words T = record {
    one = T.one;
    other = T.other;
    one_word = T.one_word;
    other_word = T.other_word;
    one_agrees = λ p v h. T.one_agrees p v (from p v h);
    other_agrees = λ p v h. T.other_agrees p v (from p v h);
    apart = T.apart;
  }
