-- What the rows tell of the corrections when all n places are gone through.
use Rattle.std.proofs.Common.{◌≡◌, ◌≢◌, ℕ, zero, suc, ◌^◌, ◌<◌, ◌⊎◌, Some, None, Option, sym, refl, ap, ◌∙◌, subst, ap₂, inl, inr, ⊎_elim, arith, pow_pos}
use lib.Bits.{bit_xor, xor_comm, xor_assoc, xor_self, xor_zero_r, xor_lt}
use Rattle.std.proofs.lemmas.Bool.{cases_eq, cases_lt}
use Rattle.codes.specs.Words.{sum}
use Rattle.codes.specs.Systematic.{unit}
use Rattle.codes.proofs.Sums.{xor_same, sum_cong, sum_zero, sum_below, sum_one, sum_two}
use Rattle.codes.proofs.Systematic.{unit_own, unit_other}
use Rattle.erasures.specs.Agreement.{State}
use Rattle.erasures.specs.Elimination.{Times, dot, Corrects, Reduced}
use Rattle.erasures.proofs.Products.{mul_zero, zero_mul, dot_below, dot_sum, dot_columns}
use Rattle.erasures.proofs.Reducing.{some_none, some_some}

pub option_cases : {X : Type 0} (o : Option X) → (o ≡ None) ⊎ ((x : X) × (o ≡ Some x))
option_cases None = inl refl
option_cases (Some x) = inr (x, refl)

-- two terms that may be other than 0, in either order
sum_both : (n : ℕ) (f : ℕ → ℕ) (a b : ℕ) → a < n → b < n → (a ≢ b) → ((i : ℕ) → i < n → (i ≢ a) → (i ≢ b) → f i ≡ 0)
    → sum n f ≡ bit_xor (f a) (f b)
sum_both n f a b la lb ne z =
    ⊎_elim (λ l. sum_two n f a b l lb z)
    (λ l. sum_two n f b a (omega (arith, ne)) la (λ i m p q. z i m q p) ∙ xor_comm (f b) (f a)) (cases_lt a b)

-- the row that is assigned to a place, looked for among the first r
pub find_row : (pivot : ℕ → Option ℕ) (r p : ℕ) → ((i : ℕ) × (i < r) × (pivot i ≡ Some p)) ⊎ ((i : ℕ) → i < r → pivot i ≢ Some p)
find_row pivot zero p = inr (λ i l q. omega arith)
find_row pivot (suc r) p =
    ⊎_elim (λ w. inl (w.0, omega (arith, w.1), w.2)) (λ none. here none (option_cases (pivot r))) (find_row pivot r p)
  where
    last : ((i : ℕ) → i < r → pivot i ≢ Some p) → (pivot r ≢ Some p) → (i : ℕ) → i < suc r → pivot i ≢ Some p
    last none other i l q = ⊎_elim (λ z. other (ap pivot (sym z) ∙ q)) (λ z. none i (omega arith) q) (cases_eq i r)

    here : ((i : ℕ) → i < r → pivot i ≢ Some p) → (pivot r ≡ None) ⊎ ((x : ℕ) × (pivot r ≡ Some x))
        → ((i : ℕ) × (i < suc r) × (pivot i ≡ Some p)) ⊎ ((i : ℕ) → i < suc r → pivot i ≢ Some p)
    here none (inl e) = inr (last none (λ q. some_none q e))
    here none (inr (x, e)) =
        ⊎_elim (λ q. inl (r, omega arith, e ∙ ap Some q)) (λ ne. inr (last none (λ q. ne (some_some e q)))) (cases_eq x p)

module _ (width : ℕ) (mul : ℕ → ℕ → ℕ) (T : Times width mul) (r n : ℕ) (h : ℕ → ℕ → ℕ) (s : ℕ → ℕ) (state : State)
    (e : ℕ → ℕ → ℕ) (t : ℕ → ℕ) (pivot : ℕ → Option ℕ) (R : Reduced width mul r h s state n e t pivot)
    (low : (j : ℕ) → j < r → s j < 2 ^ width) where
  abbrev ZeroWhereHeld : (ℕ → ℕ) → Type 0
  ZeroWhereHeld x = (p v : ℕ) → p < n → state p ≡ Some v → x p ≡ 0

  -- two rows for one place are one row
  pub one_row : (i u p : ℕ) → i < r → u < r → pivot i ≡ Some p → pivot u ≡ Some p → i ≡ u
  one_row i u p l m q w =
      ⊎_elim (λ z. z) (λ n. absurd (let z : ◌≡◌ {A = ℕ} 1 0 = sym (R.one i p l q) ∙ R.zeros u p m w i l n in omega arith)) (cases_eq i u)

  -- what row i makes of symbols x
  made : (ℕ → ℕ) → ℕ → ℕ
  made x i = sum n (λ p. mul (dot mul r (e i) (h p)) (x p))

  -- symbols give the syndrome just if each row makes its combination of it
  down : (x : ℕ → ℕ) → Corrects width mul r n h s state x → (i : ℕ) → i < r → t i ≡ made x i
  unfolding made
  down x X i l =
      R.combined i l ∙ sum_cong r _ _ (λ j m. ap (mul (e i j)) (sym (X.gives j m))) ∙ dot_columns width mul T r (e i) n h x

  up : (x : ℕ → ℕ) → ((i : ℕ) → i < r → t i ≡ made x i) → (j : ℕ) → j < r → sum n (λ p. mul (h p j) (x p)) ≡ s j
  unfolding made
  up x z j l =
      let given = λ (j : ℕ). sum n (λ p. mul (h p j) (x p)) in
      sym
      (xor_same (s j) (given j)
      (R.regular (λ j. bit_xor (s j) (given j))
      (λ j m. xor_lt width (s j) (given j) (low j m) (sum_below width n (λ p. mul (h p j) (x p)) (λ p o. T.below (h p j) (x p))))
      (λ i m.
      dot_sum width mul T r (e i) s given
      ∙ ap₂ bit_xor (sym (R.combined i m) ∙ z i m) (dot_columns width mul T r (e i) n h x) ∙ xor_self (made x i))
      j l))

  t_below : (i : ℕ) → i < r → t i < 2 ^ width
  t_below i l = subst (λ (y : ℕ). y < 2 ^ width) (sym (R.combined i l)) (dot_below width mul T r (e i) s)

  term_zero : (i p y : ℕ) → dot mul r (e i) (h p) ≡ 0 → mul (dot mul r (e i) (h p)) y ≡ 0
  term_zero i p y z = ap (λ (w : ℕ). mul w y) z ∙ zero_mul width mul T y

  -- a row sees no other place that has a row
  other_zero : (i : ℕ) → i < r → (p u : ℕ) → u < r → pivot u ≡ Some p → (pivot i ≢ Some p) → dot mul r (e i) (h p) ≡ 0
  other_zero i l p u m q ne = R.zeros u p m q i l (λ z. ne (ap pivot z ∙ q))

  -- a row that is assigned to no place sees no lost one
  open_zero : (i : ℕ) → i < r → pivot i ≡ None → (p : ℕ) → p < n → state p ≡ None → dot mul r (e i) (h p) ≡ 0
  open_zero i l none p m lost =
      ⊎_elim (λ w. other_zero i l p w.0 w.1 w.2 (λ q. some_none q none)) (λ f. (f i l).1 none) (R.placed p m lost)

  open_made : (x : ℕ → ℕ) → ZeroWhereHeld x → (i : ℕ) → i < r → pivot i ≡ None → made x i ≡ 0
  unfolding made
  open_made x held i l none =
      sum_zero n (λ p. mul (dot mul r (e i) (h p)) (x p))
      (λ p m.
      ⊎_elim (λ lost. term_zero i p (x p) (open_zero i l none p m lost))
      (λ w. ap (mul (dot mul r (e i) (h p))) (held p w.0 m w.1) ∙ mul_zero width mul T (dot mul r (e i) (h p)))
      (option_cases (state p)))

  -- each row makes its sum: row by row
  each_row : (x : ℕ → ℕ) → ZeroWhereHeld x → ((i : ℕ) → i < r → pivot i ≡ None → t i ≡ 0)
      → ((i p : ℕ) → i < r → pivot i ≡ Some p → made x i ≡ t i) → (i : ℕ) → i < r → t i ≡ made x i
  each_row x held unused used i l =
      ⊎_elim (λ none. unused i l none ∙ sym (open_made x held i l none)) (λ w. sym (used i w.0 l w.1)) (option_cases (pivot i))

  -- a row that is assigned to no place, with a sum other than 0: there is no correction
  pub none_corrects : (i : ℕ) → i < r → pivot i ≡ None → (t i ≢ 0) → (x : ℕ → ℕ) → Corrects width mul r n h s state x → ⊥
  none_corrects i l none ne x X = ne (down x X i l ∙ open_made x X.zero_where_held i l none)

  -- every lost place has a row: the correction has those rows' sums
  module _ (full : (p : ℕ) → p < n → state p ≡ None → (i : ℕ) × (i < r) × (pivot i ≡ Some p)) where
    full_made : (x : ℕ → ℕ) → ZeroWhereHeld x → (i p : ℕ) → i < r → pivot i ≡ Some p → x p < 2 ^ width → made x i ≡ x p
    unfolding made
    full_made x held i p l q b =
        sum_one n (λ o. mul (dot mul r (e i) (h o)) (x o)) p (R.seen i p l q).0
        (λ o m ne.
        ⊎_elim
        (λ lost.
        let w = full o m lost in
        term_zero i o (x o) (other_zero i l o w.0 w.1 w.2 (λ u. ne (some_some u q))))
        (λ w. ap (mul (dot mul r (e i) (h o))) (held o w.0 m w.1) ∙ mul_zero width mul T (dot mul r (e i) (h o)))
        (option_cases (state o)))
        ∙ ap (λ (u : ℕ). mul u (x p)) (R.one i p l q) ∙ T.neutral (x p) b

    pub row_corrects : (x : ℕ → ℕ) → ZeroWhereHeld x → ((i p : ℕ) → i < r → pivot i ≡ Some p → x p ≡ t i)
        → ((i : ℕ) → i < r → pivot i ≡ None → t i ≡ 0) → Corrects width mul r n h s state x
    row_corrects x held is unused = record {
      elements = λ p m.
          ⊎_elim (λ lost. let w = full p m lost in subst (λ (y : ℕ). y < 2 ^ width) (sym (is w.0 p w.1 w.2)) (t_below w.0 w.1))
          (λ w. subst (λ (y : ℕ). y < 2 ^ width) (sym (held p w.0 m w.1)) (pow_pos width)) (option_cases (state p));
      zero_where_held = held;
      gives = up x
          (each_row x held unused
          (λ i p l q. full_made x held i p l q (subst (λ (y : ℕ). y < 2 ^ width) (sym (is i p l q)) (t_below i l)) ∙ is i p l q));
    }

    pub only_corrects : (x y : ℕ → ℕ) → Corrects width mul r n h s state x → Corrects width mul r n h s state y → (p : ℕ) → p < n → x p ≡ y p
    only_corrects x y X Y p m =
        ⊎_elim (λ lost. let w = full p m lost in is x X w.0 w.1 w.2 ∙ sym (is y Y w.0 w.1 w.2))
        (λ w. X.zero_where_held p w.0 m w.1 ∙ sym (Y.zero_where_held p w.0 m w.1)) (option_cases (state p))
      where
        is : (x : ℕ → ℕ) → Corrects width mul r n h s state x → (i : ℕ) → i < r → pivot i ≡ Some p → x p ≡ t i
        is x X i l q = sym (down x X i l ∙ full_made x X.zero_where_held i p l q (X.elements p m))

  -- a lost place f that no row is assigned to: a correction for each element b, which it has there
  module _ (f : ℕ) (within : f < n) (lost : state f ≡ None) (free : (i : ℕ) → i < r → pivot i ≢ Some f) (b : ℕ) (small : b < 2 ^ width) where
    choose : (p : ℕ) → ((i : ℕ) × (i < r) × (pivot i ≡ Some p)) ⊎ ((i : ℕ) → i < r → pivot i ≢ Some p) → ℕ
    choose p (inl w) = bit_xor (t w.0) (mul (dot mul r (e w.0) (h f)) b)
    choose p (inr w) = mul (unit f p) b

    pub chosen : ℕ → ℕ
    chosen p = choose p (find_row pivot r p)

    chosen_row : (i p : ℕ) → i < r → pivot i ≡ Some p → chosen p ≡ bit_xor (t i) (mul (dot mul r (e i) (h f)) b)
    unfolding chosen choose
    chosen_row i p l q = go (find_row pivot r p)
      where
        go : (d : ((u : ℕ) × (u < r) × (pivot u ≡ Some p)) ⊎ ((u : ℕ) → u < r → pivot u ≢ Some p))
            → choose p d ≡ bit_xor (t i) (mul (dot mul r (e i) (h f)) b)
        go (inl w) = ap (λ (u : ℕ). bit_xor (t u) (mul (dot mul r (e u) (h f)) b)) (one_row w.0 i p w.1 l w.2 q)
        go (inr w) = absurd (w i l q)

    chosen_free : (p : ℕ) → ((i : ℕ) → i < r → pivot i ≢ Some p) → chosen p ≡ mul (unit f p) b
    unfolding chosen choose
    chosen_free p none = go (find_row pivot r p)
      where
        go : (d : ((u : ℕ) × (u < r) × (pivot u ≡ Some p)) ⊎ ((u : ℕ) → u < r → pivot u ≢ Some p)) → choose p d ≡ mul (unit f p) b
        go (inl w) = absurd (none w.0 w.1 w.2)
        go (inr w) = refl

    pub chosen_there : chosen f ≡ b
    chosen_there = chosen_free f free ∙ ap (λ (u : ℕ). mul u b) (unit_own f) ∙ T.neutral b small

    chosen_zero : (p : ℕ) → (p ≢ f) → ((i : ℕ) → i < r → pivot i ≢ Some p) → chosen p ≡ 0
    chosen_zero p ne none = chosen_free p none ∙ ap (λ (u : ℕ). mul u b) (unit_other f p ne) ∙ zero_mul width mul T b

    chosen_held : ZeroWhereHeld chosen
    chosen_held p v m q =
        chosen_zero p (λ z. some_none q (ap state z ∙ lost)) (λ i l w. some_none q (R.seen i p l w).1)

    chosen_below : (p : ℕ) → p < n → chosen p < 2 ^ width
    chosen_below p m =
        ⊎_elim
        (λ w.
        subst (λ (y : ℕ). y < 2 ^ width) (sym (chosen_row w.0 p w.1 w.2))
        (xor_lt width (t w.0) (mul (dot mul r (e w.0) (h f)) b) (t_below w.0 w.1) (T.below (dot mul r (e w.0) (h f)) b)))
        (λ w. subst (λ (y : ℕ). y < 2 ^ width) (sym (chosen_free p w)) (T.below (unit f p) b)) (find_row pivot r p)

    chosen_made : (i p : ℕ) → i < r → pivot i ≡ Some p → made chosen i ≡ t i
    unfolding made
    chosen_made i p l q =
        let d = mul (dot mul r (e i) (h f)) b in
        sum_both n (λ o. mul (dot mul r (e i) (h o)) (chosen o)) p f (R.seen i p l q).0 within (λ z. free i l (q ∙ ap Some z))
        (λ o m ne nf.
        ⊎_elim (λ w. term_zero i o (chosen o) (other_zero i l o w.0 w.1 w.2 (λ u. ne (some_some u q))))
        (λ w. ap (mul (dot mul r (e i) (h o))) (chosen_zero o nf w) ∙ mul_zero width mul T (dot mul r (e i) (h o))) (find_row pivot r o))
        ∙ ap₂ bit_xor
        (ap (λ (u : ℕ). mul u (chosen p)) (R.one i p l q) ∙ T.neutral (chosen p) (chosen_below p (R.seen i p l q).0) ∙ chosen_row i p l q)
        (ap (mul (dot mul r (e i) (h f))) chosen_there)
        ∙ xor_assoc (t i) d d ∙ ap (bit_xor (t i)) (xor_self d) ∙ xor_zero_r (t i)

    pub chosen_corrects : ((i : ℕ) → i < r → pivot i ≡ None → t i ≡ 0) → Corrects width mul r n h s state chosen
    chosen_corrects unused = record {
      elements = chosen_below;
      zero_where_held = chosen_held;
      gives = up chosen (each_row chosen chosen_held unused chosen_made);
    }
