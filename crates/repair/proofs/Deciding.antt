-- What the elimination tells of the words, as an answer.
use Rattle.std.proofs.Common.{◌≡◌, ℕ, ◌<◌, ◌≤◌, true, false, List, length, take, Some, None, Option, sym, refl, ap, ◌∙◌, subst, arith, length-take, get_or-take}
use Rattle.fields.specs.Meaning.{size}
use Rattle.codes.specs.Words.{CodeMeaning, CodeLaws, sum, at}
use Rattle.codes.proofs.Sums.{sum_cong, sum_below}
use Rattle.erasures.specs.Agreement.{State, held, Holding, holding, NoWordAgrees, TheOneWord, TwoWords}
use Rattle.erasures.specs.Elimination.{times, received, Determined, Contradicted, Eliminated}
use Rattle.erasures.proofs.Agreeing.{held_some, held_past, only_word, one_not_none, one_not_two, two_not_none}
use Rattle.erasures.proofs.Correcting.{one_row}
use Rattle.erasures.proofs.Products.{times_laws}
use Rattle.erasures.proofs.Reducing.{some_none}
use Rattle.erasures.proofs.Repairing.{agree_none, agree_one, agree_several}
use Rattle.repair.specs.declared.elimination.Elimination.{Elimination}
use Rattle.repair.specs.declared.Verdict.TheVariants.{NoWord, OneWord, SeveralWords}
use Rattle.repair.specs.Rows.{syndrome_of, cell, sum_at, place_at, Filled}
use Rattle.repair.specs.Verdicts.{Decides}

-- ---- each answer tells all three cases, since they exclude each other

module _ (m : CodeMeaning) (holds : Holding) where
  decides_none : NoWordAgrees m holds → Decides m holds NoWord
  decides_none N = record {
    none = (λ e. N, λ n. refl);
    one = λ w. (λ e. absurd e, λ O. absurd (one_not_none m holds w O N));
    several = (λ e. cc, λ T. absurd (two_not_none m holds T N));
    behind = tt;
  }

  decides_one : (symbols : List ℕ) → TheOneWord m holds (take m.places symbols) → ((p : ℕ) → m.places ≤ p → at symbols p ≡ 0)
      → Decides m holds (OneWord symbols)
  decides_one symbols O zeros = record {
    none = (λ e. cc, λ N. absurd (one_not_none m holds (take m.places symbols) O N));
    one = λ w. (
      λ e. subst (TheOneWord m holds) (sym e) O,
      λ P. only_word m holds w (take m.places symbols) O P.word P.agrees,
    );
    several = (λ e. cc, λ T. absurd (one_not_two m holds (take m.places symbols) O T));
    behind = zeros;
  }

  decides_several : TwoWords m holds → Decides m holds SeveralWords
  decides_several T = record {
    none = (λ e. cc, λ N. absurd (two_not_none m holds T N));
    one = λ w. (λ e. absurd e, λ O. absurd (one_not_two m holds w O T));
    several = (λ e. T, λ t. refl);
    behind = tt;
  }

-- ---- from the rows to the answer

-- what the checks sum to over a word with 0 at each lost place
pub sums_received : (m : CodeMeaning) (state : State) (word : List ℕ) → ((p : ℕ) → at word p ≡ received (state p))
    → (j : ℕ) → sum m.places (λ p. times m.field (m.entry j p) (at word p)) ≡ syndrome_of m state j
sums_received m state word is j = sum_cong m.places _ _ (λ p o. ap (times m.field (m.entry j p)) (is p))

module _ {m : CodeMeaning} (C : CodeLaws m) (cells : List (Option ℕ)) (made : Elimination)
    (E : Eliminated m.field m.checks (λ p j. m.entry j p) (syndrome_of m (held m cells)) (held m cells) m.places
    (cell made.rows) (sum_at made.rows) (place_at made.rows) made.undetermined) where
  low : (j : ℕ) → j < m.checks → syndrome_of m (held m cells) j < size m.field
  low j l = sum_below m.field.width m.places _ (λ p o. (times_laws m.field C.field_laws).below (m.entry j p) (received (held m cells p)))

  pub answer_none : Contradicted m.checks (sum_at made.rows) (place_at made.rows) true → Decides m (holding (held m cells)) NoWord
  answer_none bad =
      decides_none m (holding (held m cells))
      (agree_none m C cells (syndrome_of m (held m cells)) (λ j l. refl) (cell made.rows) (sum_at made.rows) (place_at made.rows) made.undetermined E low bad)

  pub answer_several : Contradicted m.checks (sum_at made.rows) (place_at made.rows) false → (p : ℕ) → made.undetermined ≡ Some p → Decides m (holding (held m cells)) SeveralWords
  answer_several good p e =
      decides_several m (holding (held m cells))
      (agree_several m C cells (syndrome_of m (held m cells)) (λ j l. refl) (cell made.rows) (sum_at made.rows) (place_at made.rows) made.undetermined E low good p
      (subst (Determined m.checks (held m cells) m.places (place_at made.rows)) e E.lost))

  pub row_within : (i p : ℕ) → i < m.checks → place_at made.rows i ≡ Some p → p < m.places
  row_within i p l e = (E.reduced.seen i p l e).0

  pub row_once : (i j p : ℕ) → i < m.checks → j < m.checks → place_at made.rows i ≡ Some p → place_at made.rows j ≡ Some p → i ≡ j
  row_once i j p =
      one_row m.field.width (times m.field) (times_laws m.field C.field_laws) m.checks m.places (λ p j. m.entry j p) (syndrome_of m (held m cells)) (held m cells)
      (cell made.rows) (sum_at made.rows) (place_at made.rows) E.reduced low i j p

  pub answer_one : (word full : List ℕ) → ((p : ℕ) → at word p ≡ received (held m cells p)) → length full ≡ 512 → Filled made.rows m.checks word full
      → Contradicted m.checks (sum_at made.rows) (place_at made.rows) false → made.undetermined ≡ None → Decides m (holding (held m cells)) (OneWord full)
  answer_one word full is long F good e =
      decides_one m (holding (held m cells)) full
      (agree_one m C cells (syndrome_of m (held m cells)) (λ j l. refl) (cell made.rows) (sum_at made.rows) (place_at made.rows) made.undetermined E low (take m.places full) front
      (λ p v h.
      let l = (held_some m cells p v h).0 in
      get_or-take m.places full p 0 l ∙ F.others p (λ i o q. some_none h (E.reduced.seen i p o q).1) ∙ is p ∙ ap received h)
      (λ i p l q. get_or-take m.places full p 0 (row_within i p l q) ∙ F.used i p l q)
      good (subst (Determined m.checks (held m cells) m.places (place_at made.rows)) e E.lost))
      (λ p l. F.others p (λ i o q. let b = row_within i p o q in omega arith) ∙ is p ∙ ap received (held_past m cells p l))
    where
      front : length (take m.places full) ≡ m.places
      front = let few = C.few_places in simp length-take (omega arith)
