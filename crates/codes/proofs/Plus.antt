-- The sum of two words of a code is a word.
use Rattle.std.proofs.Common.{◌≡◌, ℕ, zero, suc, ◌<◌, List, [], ◌∷◌, length, sym, refl, ap, ◌∙◌, subst, ap₂, suc-ne-zero}
use native.Mathlib.Nat.{suc_inj}
use lib.Bits.{bit_xor, xor_lt}
use Rattle.fields.specs.Meaning.{size}
use Rattle.codes.specs.Words.{CodeMeaning, CodeLaws, at}
use Rattle.codes.specs.Arrays.{build}
use Rattle.codes.specs.Theorems.{plus, SumIsWord, MessageTellsWord}
use Rattle.codes.proofs.Sums.{sum_cong, sum_xor, length_build, at_build}

pub length_plus : (v w : List ℕ) → length v ≡ length w → length (plus v w) ≡ length v
length_plus [] w e = refl
length_plus (x ∷ v) [] e = absurd (suc-ne-zero (length v) e)
length_plus (x ∷ v) (y ∷ w) e = ap suc (length_plus v w (suc_inj e))

pub at_plus : (v w : List ℕ) → length v ≡ length w → (p : ℕ) → at (plus v w) p ≡ bit_xor (at v p) (at w p)
at_plus [] [] e p = refl
at_plus [] (y ∷ w) e p = absurd (suc-ne-zero (length w) (sym e))
at_plus (x ∷ v) [] e p = absurd (suc-ne-zero (length v) e)
at_plus (x ∷ v) (y ∷ w) e zero = refl
at_plus (x ∷ v) (y ∷ w) e (suc p) = at_plus v w (suc_inj e) p

pub sum_is_word : (m : CodeMeaning) → CodeLaws m → SumIsWord m
sum_is_word m C v w V W = record {
  long = length_plus v w same ∙ V.long;
  elements = λ p h.
      subst (λ (y : ℕ). y < size m.field) (sym (at_plus v w same p)) (xor_lt m.field.width (at v p) (at w p) (V.elements p h) (W.elements p h));
  checked = λ j h.
      sum_cong m.places _ _
      (λ p l.
      ap (m.field.product (m.entry j p)) (at_plus v w same p)
      ∙ C.field_laws.distributes (m.entry j p) (at v p) (at w p) (C.entries j p h l) (V.elements p l) (W.elements p l))
      ∙ sum_xor m.places (λ p. m.field.product (m.entry j p) (at v p)) (λ p. m.field.product (m.entry j p) (at w p))
      ∙ ap₂ bit_xor (V.checked j h) (W.checked j h);
}
  where
    same : length v ≡ length w
    same = V.long ∙ sym W.long

-- the message that stands in a list
abbrev message_of : CodeMeaning → List ℕ → List ℕ
message_of m w = build m.dimension (λ i. at w (m.message_place i))

pub message_tells_word : (m : CodeMeaning) → CodeLaws m → MessageTellsWord m
message_tells_word m C v w V W same =
    C.stands_once (message_of m v) v w
    (record {
      long = length_build m.dimension (λ i. at v (m.message_place i));
      elements = λ i h. subst (λ (y : ℕ). y < size m.field) (sym (read i h)) (V.elements (m.message_place i) (C.within i h));
    })
    V (λ i h. sym (read i h)) W (λ i h. sym (read i h ∙ same i h))
  where
    read : (i : ℕ) → i < m.dimension → at (message_of m v) i ≡ at v (m.message_place i)
    read = at_build m.dimension (λ i. at v (m.message_place i))
