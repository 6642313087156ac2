use Rattle.std.proofs.Common.{◌≡◌, ℕ, ◌<◌, length, get_or}
use Rattle.fields.specs.Meaning.{size}
use Rattle.erasures.specs.Elimination.{times, dot}
use Rattle.repair.proofs.arithmetic.dot_product.Given as goal

abbrev pub invariant-loop-j : goal.invariant-loop-j
invariant-loop-j g l =
    let f = (g.C.Code.meaning l.code).field in
    record {
      element : l.total < size f;
      so_far : (a : ℕ → ℕ) → ((j x : ℕ) → j < length l.right → goal.F-post g l.left j x → x ≡ a j) → l.total ≡ dot (times f) l.j a (λ j. get_or l.right j 0);
    }
