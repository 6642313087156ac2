-- The powers of an element.
use Rattle.std.proofs.Common.{◌≡◌, ℕ, zero, suc, ◌+◌, ◌<◌, sym, ap, ◌∙◌, suc-add, zero-add}
use Rattle.fields.specs.Meaning.{FieldMeaning, FieldLaws, size}
use Rattle.fields.specs.Polynomials.{power}
use Rattle.fields.proofs.Identities.{one_below}

module _ (f : FieldMeaning) (L : FieldLaws f) (x : ℕ) (hx : x < size f) where
  pub power_below : (i : ℕ) → power f.product x i < size f
  unfolding power
  power_below zero = one_below f L
  power_below (suc i) = L.closed x (power f.product x i) hx (power_below i)

  pub power_sum : (i j : ℕ) → power f.product x (i + j) ≡ f.product (power f.product x i) (power f.product x j)
  unfolding power
  power_sum zero j = ap (power f.product x) (zero-add j) ∙ sym (L.neutral (power f.product x j) (power_below j))
  power_sum (suc i) j = cc (suc-add i j, power_sum i j, L.associates x (power f.product x i) (power f.product x j) hx (power_below i) (power_below j))
