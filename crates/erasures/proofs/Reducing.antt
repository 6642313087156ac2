-- What each step of the elimination keeps.
use Rattle.std.proofs.Common.{◌≡◌, ◌≢◌, ℕ, ◌+◌, ◌^◌, ◌<◌, Some, None, Option, sym, ap, ◌∙◌, subst, ap₂, inl, inr, ⊎_elim, arith}
use lib.Bits.{bit_xor, xor_self, xor_zero_r}
use Rattle.std.proofs.lemmas.Bool.{cases_eq}
use Rattle.codes.proofs.Sums.{sum_one}
use Rattle.erasures.specs.Agreement.{State}
use Rattle.erasures.specs.Elimination.{Times, dot, Reduced, Pivoted, Undetermined}
use Rattle.erasures.proofs.Products.{mul_zero, zero_mul, dot_below, dot_scaled, dot_added}

pub some_none : {X : Type 0} {x : X} {o : Option X} → o ≡ Some x → o ≡ None → ⊥
some_none e f = cc

pub some_some : {X : Type 0} {x y : X} {o : Option X} → o ≡ Some x → o ≡ Some y → x ≡ y
some_some e f = cc

module _ (width : ℕ) (mul : ℕ → ℕ → ℕ) (T : Times width mul) (r : ℕ) (h : ℕ → ℕ → ℕ) (s : ℕ → ℕ) (state : State) where
  -- the rows of the identity, before any place
  pub reduced_none : (e : ℕ → ℕ → ℕ) (t : ℕ → ℕ) (pivot : ℕ → Option ℕ) → ((i : ℕ) → i < r → e i i ≡ 1)
      → ((i j : ℕ) → i < r → j < r → (j ≢ i) → e i j ≡ 0) → ((i : ℕ) → i < r → t i ≡ s i)
      → ((i : ℕ) → i < r → s i < 2 ^ width) → ((i : ℕ) → i < r → pivot i ≡ None) → Reduced width mul r h s state 0 e t pivot
  reduced_none e t pivot on off same low none = record {
    regular = λ y b z j l. sym (unit y b j l) ∙ z j l;
    combined = λ i l. same i l ∙ sym (unit s low i l);
    seen = λ i p l q. absurd (some_none q (none i l));
    one = λ i p l q. absurd (some_none q (none i l));
    zeros = λ i p l q. absurd (some_none q (none i l));
    placed = λ p l. absurd (omega arith);
  }
    where
      unit : (y : ℕ → ℕ) → ((j : ℕ) → j < r → y j < 2 ^ width) → (i : ℕ) → i < r → dot mul r (e i) y ≡ y i
      unit y b i l =
          sum_one r (λ j. mul (e i j) (y j)) i l
          (λ j m n. ap (λ (w : ℕ). mul w (y j)) (off i j l m n) ∙ zero_mul width mul T (y j))
          ∙ ap (λ (w : ℕ). mul w (y i)) (on i l) ∙ T.neutral (y i) (b i l)

  module _ (done : ℕ) (e : ℕ → ℕ → ℕ) (t : ℕ → ℕ) (pivot : ℕ → Option ℕ) (R : Reduced width mul r h s state done e t pivot) where
    -- one more place for which nothing changes
    reduced_next : (state done ≡ None → Undetermined mul r h e pivot done) → Reduced width mul r h s state (done + 1) e t pivot
    reduced_next free = record {
      regular = R.regular;
      combined = R.combined;
      seen = λ i p l q. let w = R.seen i p l q in (omega (arith, w.0), w.1);
      one = R.one;
      zeros = R.zeros;
      placed = λ p l lost.
          ⊎_elim
          (λ q. inr (subst (Undetermined mul r h e pivot) (sym q) (free (ap state (sym q) ∙ lost))))
          (λ q. R.placed p (omega arith) lost)
          (cases_eq p done);
    }

    pub reduced_held : (v : ℕ) → state done ≡ Some v → Reduced width mul r h s state (done + 1) e t pivot
    reduced_held v q = reduced_next (λ lost. absurd (some_none q lost))

    -- no row that is assigned to no place sees this one
    pub reduced_undetermined : ((i : ℕ) → i < r → pivot i ≡ None → dot mul r (e i) (h done) ≡ 0)
        → Reduced width mul r h s state (done + 1) e t pivot
    reduced_undetermined unseen =
        reduced_next (λ lost i l. (λ q. let w = (R.seen i done l q).0 in omega (arith, w), unseen i l))

    module _ (i by : ℕ) (e' : ℕ → ℕ → ℕ) (t' : ℕ → ℕ) (pivot' : ℕ → Option ℕ) (lost : state done ≡ None) (here : i < r) (unused : pivot i ≡ None)
        (c : ℕ → ℕ) (column : (o : ℕ) → o < r → c o ≡ dot mul r (e o) (h done)) (inverse : mul by (c i) ≡ 1)
        (P : Pivoted mul r i by c e t e' t') (pivot_at : pivot' i ≡ Some done) (pivot_off : (o : ℕ) → (o ≢ i) → pivot' o ≡ pivot o) where
      at_row : (y : ℕ → ℕ) → dot mul r (e' i) y ≡ mul by (dot mul r (e i) y)
      at_row y = dot_scaled width mul T r (e i) (e' i) y by P.at

      off_row : (y : ℕ → ℕ) (o : ℕ) → o < r → (o ≢ i) → dot mul r (e' o) y ≡ bit_xor (dot mul r (e o) y) (mul (c o) (dot mul r (e' i) y))
      off_row y o l n = dot_added width mul T r (e o) (e' o) (e' i) y (c o) (P.off o l n)

      -- where row i gave 0 it gives 0, and no other row changes
      at_zero : (y : ℕ → ℕ) → dot mul r (e i) y ≡ 0 → dot mul r (e' i) y ≡ 0
      at_zero y z = at_row y ∙ ap (mul by) z ∙ mul_zero width mul T by

      off_zero : (y : ℕ → ℕ) → dot mul r (e' i) y ≡ 0 → (o : ℕ) → o < r → (o ≢ i) → dot mul r (e' o) y ≡ dot mul r (e o) y
      off_zero y z o l n =
          off_row y o l n ∙ ap (λ (w : ℕ). bit_xor (dot mul r (e o) y) (mul (c o) w)) z
          ∙ ap (bit_xor (dot mul r (e o) y)) (mul_zero width mul T (c o)) ∙ xor_zero_r (dot mul r (e o) y)

      stays : (y : ℕ → ℕ) → dot mul r (e i) y ≡ 0 → (o : ℕ) → o < r → dot mul r (e' o) y ≡ dot mul r (e o) y
      stays y z o l =
          ⊎_elim (λ q. ap (λ (w : ℕ). dot mul r (e' w) y) q ∙ at_zero y z ∙ sym z ∙ ap (λ (w : ℕ). dot mul r (e w) y) (sym q))
          (off_zero y (at_zero y z) o l) (cases_eq o i)

      -- and where it gives 0 now, it gave 0
      was_zero : (y : ℕ → ℕ) → dot mul r (e' i) y ≡ 0 → dot mul r (e i) y ≡ 0
      was_zero y z =
          let d = dot mul r (e i) y in
          sym (T.neutral d (dot_below width mul T r (e i) y)) ∙ ap (λ (w : ℕ). mul w d) (sym inverse ∙ T.commutes by (c i))
          ∙ T.associates (c i) by d ∙ ap (mul (c i)) (sym (at_row y) ∙ z) ∙ mul_zero width mul T (c i)

      new_combined : (o : ℕ) → o < r → t' o ≡ dot mul r (e' o) s
      new_combined o l =
          let at : t' i ≡ dot mul r (e' i) s = P.at_t ∙ ap (mul by) (R.combined i here) ∙ sym (at_row s) in
          ⊎_elim (λ q. subst (λ (w : ℕ). t' w ≡ dot mul r (e' w) s) (sym q) at)
          (λ n. P.off_t o l n ∙ ap₂ (λ (u v : ℕ). bit_xor u (mul (c o) v)) (R.combined o l) at ∙ sym (off_row s o l n))
          (cases_eq o i)

      new_one : dot mul r (e' i) (h done) ≡ 1
      new_one = at_row (h done) ∙ ap (mul by) (sym (column i here)) ∙ inverse

      new_zero : (o : ℕ) → o < r → (o ≢ i) → dot mul r (e' o) (h done) ≡ 0
      new_zero o l n =
          let d = dot mul r (e o) (h done) in
          off_row (h done) o l n ∙ ap₂ (λ (u v : ℕ). bit_xor d (mul u v)) (column o l) new_one
          ∙ ap (bit_xor d) (T.commutes d 1 ∙ T.neutral d (dot_below width mul T r (e o) (h done))) ∙ xor_self d

      -- which place a row is assigned to now
      whose : (Q : ℕ → ℕ → Type 0) → Q i done → ((o p : ℕ) → (o ≢ i) → pivot o ≡ Some p → Q o p) → (o p : ℕ) → pivot' o ≡ Some p → Q o p
      whose Q new old o p q =
          ⊎_elim
          (λ z. let same : done ≡ p = some_some (ap pivot' z ∙ pivot_at) q in subst (λ (w : ℕ). Q w p) (sym z) (subst (Q i) same new))
          (λ n. old o p n (sym (pivot_off o n) ∙ q)) (cases_eq o i)

      pub reduced_pivoted : Reduced width mul r h s state (done + 1) e' t' pivot'
      reduced_pivoted = record {
        regular = λ y b z. R.regular y b (λ o l. sym (stays y (was_zero y (z i here)) o l) ∙ z o l);
        combined = new_combined;
        seen = λ o p l q.
            whose (λ o p. o < r → (p < done + 1) × (state p ≡ None)) (λ _. (omega arith, lost))
            (λ o p n u m. let w = R.seen o p m u in (omega (arith, w.0), w.1)) o p q l;
        one = λ o p l q.
            whose (λ o p. o < r → dot mul r (e' o) (h p) ≡ 1) (λ _. new_one)
            (λ o p n u m. stays (h p) (R.zeros o p m u i here (λ z. n (sym z))) o m ∙ R.one o p m u) o p q l;
        zeros = λ o p l q.
            whose (λ o p. o < r → (u : ℕ) → u < r → (u ≢ o) → dot mul r (e' u) (h p) ≡ 0) (λ _. new_zero)
            (λ o p n u m v k d. stays (h p) (R.zeros o p m u i here (λ z. n (sym z))) v k ∙ R.zeros o p m u v k d) o p q l;
        placed = λ p l gone.
            ⊎_elim
            (λ z. inl (i, here, pivot_at ∙ ap Some (sym z)))
            (λ z.
            ⊎_elim
            (λ w. inl (w.0, w.1, pivot_off w.0 (λ x. some_none w.2 (ap pivot x ∙ unused)) ∙ w.2))
            (λ f. inr (λ o m. (
              λ q. ⊎_elim (λ x. z (some_some q (ap pivot' x ∙ pivot_at))) (λ x. (f o m).0 (sym (pivot_off o x) ∙ q)) (cases_eq o i),
              λ q.
                  ⊎_elim (λ x. absurd (some_none (ap pivot' x ∙ pivot_at) q))
                  (λ x. stays (h p) ((f i here).1 unused) o m ∙ (f o m).1 (sym (pivot_off o x) ∙ q)) (cases_eq o i),
            )))
            (R.placed p (omega arith) gone))
            (cases_eq p done);
      }
