-- The first terms of a sum of products over a field, and that the sum with the next is not refused.
use Rattle.std.proofs.Common.{◌≡◌, ℕ, ◌+◌, ◌<◌, List, length, Ok, Err, Result, sym, refl, ap, ap₂, ◌∙◌, subst, add-one, arith}
use lib.Bits.{bit_xor}
use Rattle.faults.specs.declared.Fault.{Fault}
use Rattle.fields.specs.Meaning.{FieldMeaning, FieldLaws, size}
use Rattle.fields.specs.Answers.{sum_answer, product_answer}
use Rattle.fields.proofs.Answered.{both_answered}
use Rattle.codes.specs.Words.{sum, at}
use Rattle.codes.proofs.Sums.{sum_below}
use Rattle.sample_word.specs.Sample.{Coefficients, IsSumOfProducts}

-- an answer that is granted is the value, and is no refusal
pub granted : {X : Type 0} (x y : X) → ◌≡◌ {A = Result X Fault} (Ok x) (Ok y) → x ≡ y
granted x y e = cc

pub no_refusal : {X : Type 0} (x : X) (fault : Fault) → ◌≡◌ {A = Result X Fault} (Err fault) (Ok x) → ⊥
no_refusal x fault e = cc

module _ (f : FieldMeaning) (L : FieldLaws f) (xs : List ℕ) (Gives : ℕ → Result ℕ Fault → Type 0) (g : ℕ → ℕ) (K : Coefficients f xs Gives g) where
  abbrev term : ℕ → ℕ
  term i = f.product (at xs i) (g i)

  term_below : (i : ℕ) → i < length xs → term i < size f
  term_below i h = L.closed (at xs i) (g i) (K.symbols i h) (K.elements i h)

  product_is : (i y : ℕ) → i < length xs → Gives i (Ok y) → product_answer f (at xs i) y ≡ Ok (term i)
  product_is i y h a =
      ap (product_answer f (at xs i)) (granted y (g i) (K.given i h (Ok y) a))
      ∙ sym (both_answered f (at xs i) (g i) (term i) (K.symbols i h) (K.elements i h))

  sum_is : (i y z total : ℕ) → i < length xs → Gives i (Ok y) → Ok z ≡ product_answer f (at xs i) y → total ≡ sum i term
      → sum_answer f total z ≡ Ok (sum (i + 1) term)
  sum_is i y z total h a ez et =
      ap₂ (sum_answer f) et (granted z (term i) (ez ∙ product_is i y h a))
      ∙ sym (both_answered f (sum i term) (term i) (bit_xor (sum i term) (term i)) (sum_below f.width i term (λ k l. term_below k (omega arith))) (term_below i h))
      ∙ ap Ok (rw add-one refl)

  pub no_sum_fault : (i y z total : ℕ) (fault : Fault) → i < length xs → Gives i (Ok y) → Ok z ≡ product_answer f (at xs i) y → total ≡ sum i term
      → Err fault ≡ sum_answer f total z → ⊥
  no_sum_fault i y z total fault h a ez et e = no_refusal (sum (i + 1) term) fault (e ∙ sum_is i y z total h a ez et)

-- the sum of n products over a field that is f
pub total_is : {f' : FieldMeaning} {xs : List ℕ} {Gives : ℕ → Result ℕ Fault → Type 0} {r : Result ℕ Fault} → IsSumOfProducts f' xs Gives r
    → (f : FieldMeaning) (n : ℕ) (g : ℕ → ℕ) → f' ≡ f → length xs ≡ n
    → ((i : ℕ) → i < n → (at xs i < size f) × (g i < size f) × ((y : Result ℕ Fault) → Gives i y → y ≡ Ok (g i))) → r ≡ Ok (sum n (λ i. f.product (at xs i) (g i)))
total_is {f'} {xs} {Gives} {r} h f n g e long each =
    let here : (i : ℕ) → i < length xs → i < n = λ i l. subst (λ (n : ℕ). i < n) long l in
    let K : Coefficients f xs Gives g = record {
      symbols = λ i l. (each i (here i l)).0;
      elements = λ i l. (each i (here i l)).1;
      given = λ i l. (each i (here i l)).2;
    } in
    subst (λ (f : FieldMeaning). IsSumOfProducts f xs Gives r) e h g K ∙ ap (λ (n : ℕ). Ok (sum n (λ i. f.product (at xs i) (g i)))) long
