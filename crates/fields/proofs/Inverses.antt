-- An element has one inverse, so that the one that is found is the one of the definition.
use Rattle.std.proofs.Common.{◌≡◌, ℕ, zero, suc, ◌<◌, Bool, true, eqb, arith, eq-eqb, eqb-true}
use Rattle.std.proofs.lemmas.Bool.{cond_both}
use Rattle.fields.specs.Meaning.{FieldMeaning, FieldLaws, size}
use Rattle.fields.specs.Answers.{the_one_below, inverse}
use Rattle.fields.proofs.Identities.{times_one}

found : (n : ℕ) (test : ℕ → Bool) (y : ℕ) → y < n → test y ≡ true → ((z : ℕ) → test z ≡ true → z < n → z ≡ y) → the_one_below n test ≡ y
found zero test y h t once = absurd (omega arith)
found (suc n) test y h t once =
    cond_both (test n) n (the_one_below n test) (λ r. r ≡ y) (λ e. once n e (omega arith))
    (λ e. let l : y < n = grind arith in found n test y l t (λ z u m. once z u (omega arith)))

module _ (f : FieldMeaning) (L : FieldLaws f) where
  pub one_inverse : (x y z : ℕ) → x < size f → y < size f → z < size f → f.product x y ≡ 1 → f.product x z ≡ 1 → z ≡ y
  one_inverse x y z hx hy hz ey ez = grind (arith, L.neutral, L.commutes, L.associates, times_one)

  pub inverse_is : (x y : ℕ) → x < size f → y < size f → f.product x y ≡ 1 → inverse f x ≡ y
  unfolding inverse
  inverse_is x y hx hy e =
      found (size f) (λ y. eqb (f.product x y) 1) y hy (eq-eqb (f.product x y) 1 e)
      (λ z t hz. one_inverse x y z hx hy hz e (eqb-true (f.product x z) 1 t))
