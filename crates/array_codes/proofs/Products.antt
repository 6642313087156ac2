-- The entries of an array as the code works them out.
use Rattle.std.proofs.Common.{◌≡◌, ℕ, ◌+◌, ◌-◌, ◌*◌, ◌/◌, ◌%◌, ◌^◌, ◌<◌, ◌≤◌, Bool, true, false, if◌then◌else◌, Ok, Err, sym, refl, ◌∙◌, ap₂, arith}
use lib.Pow.{pow-lt}
use Rattle.std.proofs.lemmas.Nat.{one_shl, div_below}
use Rattle.fields.specs.Meaning.{FieldMeaning, size}
use Rattle.fields.specs.Answers.{product_answer}
use Rattle.fields.proofs.Answered.{product_answered}
use Rattle.std.proofs.lemmas.Bool.Decides.{nat_tests}
use Rattle.faults.specs.declared.Fault.{Fault}
use Rattle.codes.specs.Words.{CodeMeaning, CodeLaws}
use Rattle.codes.specs.Answers.{entry_answer, generator_answer}
use Rattle.codes.specs.Arrays.{array, array_fits, array_places, array_checks, array_dimension}

module _ (m : CodeMeaning) (K : CodeLaws m) where
  abbrev w : ℕ
  w = m.field.width

  some : 0 < w
  some = K.field_laws.some_bits

  pub times_bit_is : (F : FieldMeaning) → F ≡ m.field → (x b : ℕ) → x < size m.field → b < w
      → product_answer F x ((1 * 2 ^ b) % 2 ^ 16) ≡ Ok (m.field.product x (2 ^ b))
  times_bit_is F eF x b hx hb =
      let l = K.field_laws.few_bits in
      let h : b < 16 = omega arith in
      ap₂ (λ (G : FieldMeaning) (y : ℕ). product_answer G x y) eF (one_shl b 16 h)
      ∙ sym (product_answered m.field x (2 ^ b) (m.field.product x (2 ^ b)) hx (pow-lt hb) refl)

  -- ---- what the entries ask of the code below is not refused

  -- what is below a number that may be 0 is below the number
  below_if : (b : Bool) (x n : ℕ) → x < (if b then n else 0) → x < n
  below_if true x n h = h
  below_if false x n h = absurd (omega arith)

  pub row_index : (p : ℕ) → p < (array m).places → p / (w + 1) < m.places
  row_index p h = div_below p (w + 1) m.places (omega arith) (below_if (array_fits m) p (array_places m) h)

  pub symbol_index : (i : ℕ) → i < (array m).dimension → i / w < m.dimension
  symbol_index i h = div_below i w m.dimension some (below_if (array_fits m) i (array_dimension m) h)

  check_index : (t : ℕ) → t < (array m).checks → m.places ≤ t → (t - m.places) / w < m.checks
  check_index t h l =
      let q : t < array_checks m = below_if (array_fits m) t (array_checks m) h in
      let s : t - m.places < m.checks * w = omega arith in
      div_below (t - m.places) w m.checks some s

  pub entry_granted : (v rows t p : ℕ) (fault : Fault) → v ≡ w → rows ≡ m.places → t < (array m).checks → p < (array m).places → rows ≤ t
      → Err fault ≡ entry_answer m ((t - rows) / v) (p / (v + 1)) → ⊥
  entry_granted v rows t p fault ev er ht hp l = grind (arith, nat_tests, check_index t ht, row_index p hp)

  pub generator_granted : (G : ℕ → ℕ → ℕ) (v i p : ℕ) (fault : Fault) → v ≡ w → i < (array m).dimension → p < (array m).places
      → Err fault ≡ generator_answer m G (i / v) (p / (v + 1)) → ⊥
  generator_granted G v i p fault ev hi hp = grind (arith, nat_tests, symbol_index i hi, row_index p hp)
