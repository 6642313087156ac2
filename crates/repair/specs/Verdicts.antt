-- What each answer of a repair means.
use Rattle.std.specs.Prelude.{◌≡◌, ℕ, ◌≤◌, ◌↔◌, List, take}
use Rattle.codes.specs.Words.{CodeMeaning, at}
use Rattle.erasures.specs.Agreement.{Holding, NoWordAgrees, TheOneWord, TwoWords}
use Rattle.repair.specs.declared.Verdict.{Verdict}
use Rattle.repair.specs.declared.Verdict.TheVariants.{NoWord, OneWord, SeveralWords}

-- the word that the answer gives
abbrev pub Gives : CodeMeaning → Verdict → List ℕ → Type 0
Gives m NoWord w = ⊥
Gives m (OneWord symbols) w = w ≡ take m.places symbols
Gives m SeveralWords w = ⊥

-- zeros stand behind it
abbrev pub ZerosBehind : CodeMeaning → Verdict → Type 0
ZerosBehind m NoWord = Unit {0}
ZerosBehind m (OneWord symbols) = (p : ℕ) → m.places ≤ p → at symbols p ≡ 0
ZerosBehind m SeveralWords = Unit {0}

-- The answer is NoWord exactly when no word agrees with what is held, it gives w exactly when w agrees and every other
-- word differs at a held place, and it is SeveralWords exactly when two words that are not the same agree.
pub record Decides (m : CodeMeaning) (holds : Holding) (answer : Verdict) : Type 0 where
  pub none : (answer ≡ NoWord) ↔ NoWordAgrees m holds
  pub one : (w : List ℕ) → Gives m answer w ↔ TheOneWord m holds w
  pub several : (answer ≡ SeveralWords) ↔ TwoWords m holds
  pub behind : ZerosBehind m answer
