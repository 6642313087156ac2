-- The elimination over rows, place by place.
use Rattle.std.proofs.Common.{◌≡◌, ℕ, ◌+◌, ◌<◌, true, false, List, Some, None, Option, is_some, refl, sym, ◌∙◌, subst}
use Rattle.fields.specs.Meaning.{FieldMeaning, FieldLaws, size}
use Rattle.erasures.specs.Agreement.{State}
use Rattle.erasures.specs.Elimination.{Eliminated}
use Rattle.erasures.proofs.Eliminating.{eliminated_none, eliminated_held, eliminated_undetermined, eliminated_used}
use Rattle.repair.specs.declared.rows.Row.{Row}
use Rattle.repair.specs.Rows.{row_at, cell, sum_at, place_at, UnitRow, Used}

pub none_is : {X : Type 0} (o : Option X) → is_some o ≡ false → o ≡ None
none_is None e = refl
none_is (Some x) e = cc

pub some_is : {X : Type 0} (o : Option X) → is_some o ≡ true → (x : X) × (o ≡ Some x)
some_is None e = cc
some_is (Some x) e = (x, refl)

module _ (f : FieldMeaning) (L : FieldLaws f) (r : ℕ) (h : ℕ → ℕ → ℕ) (s : ℕ → ℕ) (state : State) where
  pub started : (xs : List Row) → ((i : ℕ) → i < r → UnitRow i (s i) (row_at xs i)) → ((i : ℕ) → i < r → s i < size f)
      → Eliminated f r h s state 0 (cell xs) (sum_at xs) (place_at xs) None
  started xs units low =
      eliminated_none f L r h s state (cell xs) (sum_at xs) (place_at xs)
      (λ i l. (units i l).one) (λ i j l m n. (units i l).zeros j n) (λ i l. (units i l).sum) low (λ i l. (units i l).place)

  module _ (done : ℕ) (xs : List Row) (undetermined : Option ℕ) (E : Eliminated f r h s state done (cell xs) (sum_at xs) (place_at xs) undetermined) where
    pub held_passed : (symbol : Option ℕ) → symbol ≡ state done → is_some symbol ≡ true → Eliminated f r h s state (done + 1) (cell xs) (sum_at xs) (place_at xs) undetermined
    held_passed symbol is some =
        let (v, e) = some_is symbol some in eliminated_held f L r h s state done (cell xs) (sum_at xs) (place_at xs) undetermined E v (sym is ∙ e)

    pub lost_undetermined : (ys : List Row) (symbol used : Option ℕ) → symbol ≡ state done → is_some symbol ≡ false → is_some used ≡ false → Used f r (h done) done xs ys used
        → Eliminated f r h s state (done + 1) (cell ys) (sum_at ys) (place_at ys) (Some done)
    lost_undetermined ys symbol None is gone e (same, unseen) =
        subst (λ (zs : List Row). Eliminated f r h s state (done + 1) (cell zs) (sum_at zs) (place_at zs) (Some done)) (sym same)
        (eliminated_undetermined f L r h s state done (cell xs) (sum_at xs) (place_at xs) undetermined E (sym is ∙ none_is symbol gone) unseen)
    lost_undetermined ys symbol (Some i) is gone e U = cc

    pub lost_used : (ys : List Row) (symbol used : Option ℕ) → symbol ≡ state done → is_some symbol ≡ false → is_some used ≡ true → Used f r (h done) done xs ys used
        → Eliminated f r h s state (done + 1) (cell ys) (sum_at ys) (place_at ys) undetermined
    lost_used ys symbol None is gone e U = cc
    lost_used ys symbol (Some i) is gone e U =
        eliminated_used f L r h s state done (cell xs) (sum_at xs) (place_at xs) undetermined E i U.step.by (cell ys) (sum_at ys) (place_at ys)
        (sym is ∙ none_is symbol gone) U.within U.unused U.column U.is U.step.inverse U.step.pivoted U.step.here U.step.others
