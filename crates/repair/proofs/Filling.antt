-- The sums of the rows, written at the places that they are assigned to.
use Rattle.std.proofs.Common.{◌≡◌, ◌≢◌, ℕ, ◌+◌, ◌<◌, List, length, get_or, set, Some, sym, ap, ◌∙◌, ⊎_elim, arith, get_or-set_other, get_or-set_same}
use Rattle.std.proofs.lemmas.Bool.{cases_eq}
use Rattle.erasures.proofs.Reducing.{some_some}
use Rattle.repair.specs.declared.rows.Row.{Row}
use Rattle.repair.specs.Rows.{sum_at, place_at, Filled}

module _ (rows : List Row) (xs ys : List ℕ) (n : ℕ) (F : Filled rows n xs ys) where
  -- the row n is assigned to p, and no row before it is
  pub filled_row : (p : ℕ) → p < length ys → place_at rows n ≡ Some p → ((i : ℕ) → i < n → place_at rows i ≢ Some p)
      → Filled rows (n + 1) xs (set ys p (sum_at rows n))
  filled_row p l e once = record {
    used = λ i q m d.
        ⊎_elim
        (λ z.
        let same : q ≡ p = some_some d (ap (place_at rows) z ∙ e) in
        ap (λ (k : ℕ). get_or (set ys p (sum_at rows n)) k 0) same ∙ get_or-set_same ys p (sum_at rows n) 0 l ∙ ap (sum_at rows) (sym z))
        (λ z. get_or-set_other ys p q (sum_at rows n) 0 (λ same. once i (omega arith) (d ∙ ap Some same)) ∙ F.used i q (omega arith) d)
        (cases_eq i n);
    others = λ q none.
        get_or-set_other ys p q (sum_at rows n) 0 (λ same. none n (omega arith) (e ∙ ap Some (sym same))) ∙ F.others q (λ i m. none i (omega arith));
  }

  pub filled_none : ((p : ℕ) → place_at rows n ≢ Some p) → Filled rows (n + 1) xs ys
  filled_none free = record {
    used = λ i q m d. ⊎_elim (λ z. absurd (free q (ap (place_at rows) (sym z) ∙ d))) (λ z. F.used i q (omega arith) d) (cases_eq i n);
    others = λ q none. F.others q (λ i m. none i (omega arith));
  }
