-- The refusal of the first item that fails a test, and of a wrong length.
use Rattle.std.proofs.Common.{◌≡◌, ℕ, zero, suc, ◌+◌, ◌<◌, ◌≤◌, Bool, true, false, ltb, List, [], ◌∷◌, map, length, get_or, is_some, Some, None, Option, Ok, Err, Result, unwrap_or, sym, refl, ap, ◌∙◌, subst, suc-le-suc, add-zero, zero-add, arith}
use Rattle.std.proofs.lemmas.List.{ext_get_or, get_or-map, length-map}
use Rattle.std.proofs.lemmas.Bool.{lt-ltb, le-ltb}
use Rattle.std.proofs.lemmas.Bool.Decides.{nat_tests}
use Rattle.std.proofs.lemmas.Grind.{common_steps}
use Rattle.std.specs.Option.{MatchOption}
use Rattle.std.specs.Result.{MatchResult}
use Rattle.faults.specs.declared.Fault.{Fault}
use Rattle.faults.specs.Table.{no_element, no_element_at, told_at, not_a_number}
use Rattle.sample_word.specs.Answers.{if_all, if_seven, accept_answer, numbers_answer}
use Rattle.sample_word.specs.Numbers.{number_of}
use Rattle.fields.specs.Meaning.{FieldMeaning}
use Rattle.fields.specs.Answers.{element_answer}
use Rattle.fields.specs.Polynomials.{gf8}
use Rattle.codes.specs.Words.{Message, at}
use Rattle.sample_word.specs.Sample.{sample}
use Rattle.sample_word.proofs.Products.{no_refusal}

pub seven : {X A : Type 0} (xs : List X) (answer : Result A Fault) → length xs ≡ 7 → if_seven xs answer ≡ answer
seven xs answer e = grind (arith, common_steps)

module _ {X A : Type 0} (test : X → Bool) (refusal : ℕ → Fault) (answer : Result A Fault) (d : X) where
  pub all_pass : (from : ℕ) (xs : List X) → ((k : ℕ) → k < length xs → test (get_or xs k d) ≡ true) → if_all test refusal from xs answer ≡ answer
  all_pass from [] h = refl
  all_pass from (x ∷ xs) h = grind (arith, h 0 (omega arith), all_pass (from + 1) xs (λ k l. h (suc k) (suc-le-suc l)))

  pub first_fails : (from : ℕ) (xs : List X) (i : ℕ) → i < length xs → ((k : ℕ) → k < i → test (get_or xs k d) ≡ true) → test (get_or xs i d) ≡ false
      → if_all test refusal from xs answer ≡ Err (refusal (from + i))
  first_fails from [] i l h e = absurd (omega arith)
  first_fails from (x ∷ xs) zero l h e = grind (arith, add-zero from)
  first_fails from (x ∷ xs) (suc i) l h e = grind (arith, h 0 (omega arith), first_fails (from + 1) xs i (omega arith) (λ k m. h (suc k) (suc-le-suc m)) e)

-- ---- a message

abbrev is_symbol : ℕ → Bool
is_symbol x = ltb x 8

-- what is said of a value that is there
pub present : {A : Type 0} (o : Option A) (x : A) (N : Type 0) (P : A → Type 0) → MatchOption o N P → o ≡ Some x → P x
present o x N P h e = let k : MatchOption (Some x) N P = subst (λ o. MatchOption o N P) e h in k

-- the refusal that is told at a place
pub told : (answer : Result ℕ Fault) (i : ℕ) (fault : Fault) (Tells : Fault → Type 0) → MatchResult answer (λ x. ◌≡◌ {A = Result ℕ Fault} (Err fault) (Ok x)) Tells
    → ((e : Fault) → Tells e → fault ≡ told_at e i) → (e : Fault) × (Err e ≡ answer) × (fault ≡ told_at e i)
told (Ok x) i fault Tells h tells = absurd (no_refusal x fault h)
told (Err e) i fault Tells h tells = (e, refl, tells e h)

element_refused : (x : ℕ) (fault : Fault) → Err fault ≡ element_answer gf8 x → (fault ≡ no_element) × (8 ≤ x)
element_refused x fault = grind (arith, nat_tests)

pub symbol_refused : (f : FieldMeaning) (m : List ℕ) (i : ℕ) (fault : Fault) → f ≡ gf8 → length m ≡ 7 → i < length m → ((k : ℕ) → k < i → at m k < 8)
    → Err fault ≡ element_answer f (at m i) → accept_answer m ≡ Err (told_at fault i)
symbol_refused f m i fault e l h below a =
    let (q, here) = element_refused (at m i) fault (a ∙ ap (λ (f : FieldMeaning). element_answer f (at m i)) e) in
    seven m (if_all is_symbol no_element_at 0 m (Ok tt)) l
    ∙ first_fails is_symbol no_element_at (Ok tt) 0 0 m i h (λ k lk. lt-ltb (at m k) 8 (below k lk)) (le-ltb (at m i) 8 here)
    ∙ rw (zero-add, q) refl

pub message_granted : (m : List ℕ) → Message sample m → accept_answer m ≡ Ok tt
message_granted m M =
    seven m (if_all is_symbol no_element_at 0 m (Ok tt)) M.long
    ∙ all_pass is_symbol no_element_at (Ok tt) 0 0 m (λ k l. lt-ltb (at m k) 8 (M.elements k (subst (λ (n : ℕ). k < n) M.long l)))

-- ---- texts

abbrev is_number : List ℕ → Bool
is_number t = is_some (number_of t)

abbrev value : List ℕ → ℕ
value t = unwrap_or (number_of t) 0

-- the first i texts write the symbols of m
abbrev pub Read : List (List ℕ) → List ℕ → ℕ → Type 0
Read texts m i = (k : ℕ) → k < i → number_of (get_or texts k []) ≡ Some (at m k)

pub text_refused : (texts : List (List ℕ)) (m : List ℕ) (i : ℕ) → i < length texts → Read texts m i → number_of (get_or texts i []) ≡ None → numbers_answer texts ≡ Err (not_a_number (i + 1))
text_refused texts m i h read here =
    first_fails is_number not_a_number (Ok (map value texts)) [] 1 texts i h (λ k l. ap (is_some {T = ℕ}) (read k l)) (ap (is_some {T = ℕ}) here)
    ∙ ap (λ (n : ℕ). Err (not_a_number n)) (omega arith)

pub texts_granted : (texts : List (List ℕ)) (m : List ℕ) → length texts ≡ length m → Read texts m (length m) → Ok m ≡ numbers_answer texts
texts_granted texts m l read =
    ap Ok
    (ext_get_or 0 m (map value texts) (sym (length-map texts value ∙ l)) (λ k h.
    let hk : k < length texts = omega arith in
    sym (get_or-map value texts k [] 0 hk ∙ ap (λ (o : Option ℕ). unwrap_or o 0) (read k h))))
    ∙ sym (all_pass is_number not_a_number (Ok (map value texts)) [] 1 texts (λ k h. ap (is_some {T = ℕ}) (read k (omega arith))))
