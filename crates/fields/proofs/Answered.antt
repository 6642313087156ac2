-- What a call owes for an answer that it found, and what an answer tells.
use Rattle.std.proofs.Common.{◌≡◌, ◌≢◌, ℕ, ◌<◌, Ok, arith}
use Rattle.std.proofs.lemmas.Bool.Decides.{nat_tests}
use Rattle.fields.specs.Meaning.{FieldMeaning, FieldLaws, size}
use Rattle.fields.specs.Answers.{if_element, product_answer, inverse, inverse_answer}
use Rattle.fields.proofs.Inverses.{inverse_is}

-- an answer that asks for two elements: what it tells when it is granted, and that it is granted
pub both_granted : {A : Type 0} (f : FieldMeaning) (x y : ℕ) (answer z : A) → Ok z ≡ if_element f x (if_element f y (Ok answer)) → (x < size f) × (y < size f) × (z ≡ answer)
both_granted f x y answer z = grind (arith, nat_tests)

pub both_answered : {A : Type 0} (f : FieldMeaning) (x y : ℕ) (answer : A) → x < size f → y < size f → Ok answer ≡ if_element f x (if_element f y (Ok answer))
both_answered f x y answer hx hy = grind (arith, nat_tests)

pub product_answered : (f : FieldMeaning) (x y z : ℕ) → x < size f → y < size f → z ≡ f.product x y → Ok z ≡ product_answer f x y
product_answered f x y z hx hy e = grind (arith, nat_tests)

pub inverse_answered : (f : FieldMeaning) → FieldLaws f → (x y : ℕ) → x < size f → (x ≢ 0) → y < size f → f.product x y ≡ 1 → Ok y ≡ inverse_answer f x
inverse_answered f L x y hx ne hy e = grind (arith, nat_tests, inverse_is)

pub inverse_granted : (f : FieldMeaning) → FieldLaws f → (x y : ℕ) → Ok y ≡ inverse_answer f x → (x < size f) × (x ≢ 0) × (y < size f) × (f.product x y ≡ 1)
inverse_granted f L x y h =
    let (hx, ne, e) : (x < size f) × (x ≢ 0) × (y ≡ inverse f x) = grind (arith, nat_tests) in
    let (z, hz, u) = L.inverts x hx ne in
    grind (arith, inverse_is f L x z hx hz u)
