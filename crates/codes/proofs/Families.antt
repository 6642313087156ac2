-- Single parity and the four times extended code are lawful.
use Rattle.std.proofs.Common.{◌≡◌, ◌≢◌, ℕ, zero, suc, ◌+◌, ◌-◌, ◌<◌, ◌≤◌, cond, ltb, sym, refl, ap, ◌∙◌, subst, arith, lit≤}
use Rattle.fields.specs.Meaning.{FieldMeaning, FieldLaws, size}
use Rattle.fields.proofs.Identities.{one_below}
use Rattle.fields.proofs.Sizes.{size_some, size_few}
use Rattle.codes.specs.Words.{CodeLaws, Generates}
use Rattle.codes.specs.Systematic.{parity, parity_generator, power_of, unit, point, four_entry, four_times, four_generator}
use Rattle.codes.proofs.Sums.{then_at, then_low, then_high}
use Rattle.codes.proofs.Systematic.{Tailed, systematic_laws, systematic_generates, same_generates, placed, unit_own, unit_other, unit_below}

module _ (f : FieldMeaning) (L : FieldLaws f) where
  parity_tailed : (k : ℕ) → Tailed f k 1 (λ j p. 1)
  parity_tailed k = record {
    bounds = λ j p hj hp. one_below f L;
    own = λ j h. refl;
    other = λ j i hj hi ne. absurd (ne (omega arith));
  }

  pub parity_laws : (n : ℕ) → 2 ≤ n → n ≤ 512 → CodeLaws (parity f n)
  parity_laws n h m = systematic_laws f L (n - 1) 1 (λ j p. 1) (parity_tailed (n - 1)) n (omega arith) m (lit≤ tt)

  pub parity_generates : (n : ℕ) → 2 ≤ n → Generates (parity f n) (parity_generator n)
  parity_generates n h = systematic_generates f L (n - 1) 1 (λ j p. 1) (parity_tailed (n - 1)) n (omega arith)

  pub point_below : (p : ℕ) → p < size f - 1 → point f p < size f
  point_below p h = let s = size_some f L in L.roll_below (size f - 2 - p) (omega arith)

  pub point_nonzero : (p : ℕ) → p < size f - 1 → point f p ≢ 0
  point_nonzero p h = let s = size_some f L in L.roll_nonzero (size f - 2 - p) (omega arith)

  pub point_apart : (p r : ℕ) → p < size f - 1 → r < size f - 1 → point f p ≡ point f r → p ≡ r
  point_apart p r hp hr e = grind (arith, size_some, L.roll_once)

  pub power_below : (j x : ℕ) → x < size f → power_of f j x < size f
  power_below zero x h = one_below f L
  power_below (suc zero) x h = h
  power_below (suc (suc zero)) x h = L.closed x x h h
  power_below (suc (suc (suc j))) x h = L.closed (f.product x x) x (L.closed x x h h) h

  pub entry_point : (j p : ℕ) → p < size f - 1 → four_entry f j p ≡ power_of f j (point f p)
  entry_point j = then_low (size f - 1) (λ p. power_of f j (point f p)) (unit j)

  pub entry_unit : (j i : ℕ) → four_entry f j (size f - 1 + i) ≡ unit j i
  entry_unit j = then_high (size f - 1) (λ p. power_of f j (point f p)) (unit j)

  pub four_tailed : Tailed f (size f - 1) 4 (four_entry f)
  four_tailed = record {
    bounds = λ j p hj hp.
        placed (λ p. four_entry f j p < size f) (size f - 1) 4
        (λ p l. subst (λ (y : ℕ). y < size f) (sym (entry_point j p l)) (power_below j (point f p) (point_below p l)))
        (λ i l. subst (λ (y : ℕ). y < size f) (sym (entry_unit j i)) (unit_below f L j i)) p hp;
    own = λ j h. entry_unit j j ∙ unit_own j;
    other = λ j i hj hi ne. entry_unit j i ∙ unit_other j i ne;
  }

  pub four_long : size f + 3 ≡ size f - 1 + 4
  four_long = let s = size_some f L in omega arith

  pub four_times_laws : CodeLaws (four_times f)
  four_times_laws =
      let s = size_few f L in
      systematic_laws f L (size f - 1) 4 (four_entry f) four_tailed (size f + 3) four_long (omega arith) (lit≤ tt)

  pub four_times_generates : Generates (four_times f) (four_generator f)
  four_times_generates =
      same_generates (four_times f) (λ i. then_at (size f - 1) (unit i) (λ j. four_entry f j i)) (four_generator f)
      (λ i p hi. ap (λ (y : ℕ). cond (ltb p (size f - 1)) (unit i p) y) (entry_point (p - (size f - 1)) i hi))
      (systematic_generates f L (size f - 1) 4 (four_entry f) four_tailed (size f + 3) four_long)
