use Rattle.std.proofs.Common.{◌≡◌, ℕ}
use Rattle.codes.specs.Words.{sum, at}
use Rattle.sample_word.specs.Sample.{Coefficients}
use Rattle.sample_word.proofs.sum_of_products.Given as goal

abbrev pub invariant-loop-i : goal.invariant-loop-i
invariant-loop-i g l =
    let f = g.F.Field.meaning l.field in
    (h : ℕ → ℕ) → Coefficients f l.symbols (goal.C-post g l.coefficient) h → l.total ≡ sum l.i (λ i. f.product (at l.symbols i) (h i))
