-- An array that a function makes of another.
use Rattle.std.proofs.Common.{◌≡◌, ℕ, zero, suc, ◌+◌, ◌<◌, ◌≤◌, List, map, length, get_or, refl, sym, ap, ◌∙◌, subst, ⊎_elim, arith}
use Rattle.std.proofs.lemmas.List.{ext_get_or, get_or-map, length-map}
use Rattle.std.proofs.lemmas.Bool.{cases_eq}
use denote.Param.Members.{Mut, Called}
use Rattle.std.specs.Array.{MapsFrom, IsMapOf}

-- a function that answers h of each item and is left as it was
module _ {F A B : Type 0} (g : Mut F (A × Unit {0}) B) (h : A → B) (f : F) (step : (x : A) (y : B) (q : F) → Called g f (x, tt) y q → (y ≡ h x) × (q ≡ f)) (d : A) (e : B) (xs : List A) (ys : List B) where
  each_mapped : (n i : ℕ) (p : F) → p ≡ f → MapsFrom g p xs ys i n → (k : ℕ) → i ≤ k → k < i + n → get_or ys k e ≡ h (get_or xs k d)
  each_mapped zero i p same m k low high = absurd (omega arith)
  each_mapped (suc n) i p same (q, x, y, ex, ey, called, rest) k low high =
      let (gives, left) = step x y q (subst (λ (p : F). Called g p (x, tt) y q) same called) in
      ⊎_elim
      (λ at. ap (λ (k : ℕ). get_or ys k e) at ∙ ey.1 e ∙ gives ∙ ap h (sym (ex.1 d)) ∙ ap (λ (k : ℕ). h (get_or xs k d)) (sym at))
      (λ ne. each_mapped n (i + 1) q left rest k (omega arith) (omega arith))
      (cases_eq k i)

  pub mapped : (n : ℕ) → length xs ≡ n → IsMapOf g f xs ys n → ys ≡ map h xs
  mapped n l m =
      ext_get_or e ys (map h xs) (m.long ∙ sym (length-map xs h ∙ l)) (λ k b.
      let hk : k < length xs = omega (arith, m.long, l) in
      each_mapped n 0 f refl m.each k (omega arith) (omega (arith, m.long)) ∙ sym (get_or-map h xs k d e hk))
