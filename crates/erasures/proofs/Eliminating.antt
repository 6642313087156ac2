-- The elimination, place by place.
use Rattle.std.proofs.Common.{◌≡◌, ◌≢◌, ℕ, ◌+◌, ◌<◌, Some, None, Option, ap, ◌∙◌, sym, ⊎_elim, arith}
use Rattle.std.proofs.lemmas.Bool.{cases_eq}
use Rattle.fields.specs.Meaning.{FieldMeaning, FieldLaws, size}
use Rattle.erasures.specs.Agreement.{State}
use Rattle.erasures.specs.Elimination.{times, dot, Pivoted, Determined, Eliminated}
use Rattle.erasures.proofs.Products.{times_laws}
use Rattle.erasures.proofs.Reducing.{reduced_none, reduced_held, reduced_undetermined, reduced_pivoted, some_none, some_some}

module _ (f : FieldMeaning) (L : FieldLaws f) (r : ℕ) (h : ℕ → ℕ → ℕ) (s : ℕ → ℕ) (state : State) where
  -- the rows of the identity, each with its number of the syndrome
  pub eliminated_none : (e : ℕ → ℕ → ℕ) (t : ℕ → ℕ) (pivot : ℕ → Option ℕ) → ((i : ℕ) → i < r → e i i ≡ 1)
      → ((i j : ℕ) → i < r → j < r → (j ≢ i) → e i j ≡ 0) → ((i : ℕ) → i < r → t i ≡ s i)
      → ((i : ℕ) → i < r → s i < size f) → ((i : ℕ) → i < r → pivot i ≡ None) → Eliminated f r h s state 0 e t pivot None
  eliminated_none e t pivot on off same low none = record {
    reduced = reduced_none f.width (times f) (times_laws f L) r h s state e t pivot on off same low none;
    lost = λ p l. absurd (omega arith);
  }

  module _ (done : ℕ) (e : ℕ → ℕ → ℕ) (t : ℕ → ℕ) (pivot : ℕ → Option ℕ) (undetermined : Option ℕ) (E : Eliminated f r h s state done e t pivot undetermined) where
    pub eliminated_held : (v : ℕ) → state done ≡ Some v → Eliminated f r h s state (done + 1) e t pivot undetermined
    eliminated_held v q = record {
      reduced = reduced_held f.width (times f) (times_laws f L) r h s state done e t pivot E.reduced v q;
      lost = further undetermined E.lost;
    }
      where
        further : (o : Option ℕ) → Determined r state done pivot o → Determined r state (done + 1) pivot o
        further None d = λ p l lost.
            ⊎_elim (λ z. absurd (some_none q (ap state (sym z) ∙ lost))) (λ z. d p (omega arith) lost) (cases_eq p done)
        further (Some p) (l, lost, none) = (omega arith, lost, none)

    -- a lost place that no row sees which could be assigned to it
    pub eliminated_undetermined : state done ≡ None → ((i : ℕ) → i < r → pivot i ≡ None → dot (times f) r (e i) (h done) ≡ 0)
        → Eliminated f r h s state (done + 1) e t pivot (Some done)
    eliminated_undetermined gone unseen = record {
      reduced = reduced_undetermined f.width (times f) (times_laws f L) r h s state done e t pivot E.reduced unseen;
      lost = (omega arith, gone, λ i l u. let w = (E.reduced.seen i done l u).0 in omega (arith, w));
    }

    -- a lost place that row i is assigned to
    pub eliminated_used : (i by : ℕ) (e' : ℕ → ℕ → ℕ) (t' : ℕ → ℕ) (pivot' : ℕ → Option ℕ) → state done ≡ None → i < r → pivot i ≡ None
        → (c : ℕ → ℕ) → ((o : ℕ) → o < r → c o ≡ dot (times f) r (e o) (h done)) → times f by (c i) ≡ 1 → Pivoted (times f) r i by c e t e' t'
        → pivot' i ≡ Some done → ((o : ℕ) → (o ≢ i) → pivot' o ≡ pivot o) → Eliminated f r h s state (done + 1) e' t' pivot' undetermined
    eliminated_used i by e' t' pivot' gone here unused c column inverse P at off = record {
      reduced = reduced_pivoted f.width (times f) (times_laws f L) r h s state done e t pivot E.reduced
          i by e' t' pivot' gone here unused c column inverse P at off;
      lost = further undetermined E.lost;
    }
      where
        further : (o : Option ℕ) → Determined r state done pivot o → Determined r state (done + 1) pivot' o
        further None d = λ p m lost.
            ⊎_elim (λ q. (i, here, at ∙ ap Some (sym q)))
            (λ q. let w = d p (omega arith) lost in (w.0, w.1, off w.0 (λ x. some_none w.2 (ap pivot x ∙ unused)) ∙ w.2))
            (cases_eq p done)
        further (Some p) (m, lost, none) = (
          omega arith,
          lost,
          λ o n u. ⊎_elim (λ x. let q : p ≡ done = some_some u (ap pivot' x ∙ at) in omega (arith, m)) (λ x. none o n (sym (off o x) ∙ u)) (cases_eq o i),
        )
