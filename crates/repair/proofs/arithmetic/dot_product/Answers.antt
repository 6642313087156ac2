use Rattle.std.proofs.Common.{◌≡◌, ℕ, length, get_or, refl, subst, arith}
use Rattle.erasures.specs.Elimination.{times, dot}
use Rattle.repair.proofs.Lists.{dot_more}
use Rattle.repair.proofs.arithmetic.dot_product.Goals as goal

pub loop-j-preserved : goal.loop-j-preserved
loop-j-preserved g c =
    let f = (g.C.Code.meaning c.args.code.now).field in
    let j = c.loop-j.j in
    record {
      element = c.mul_add-total.ensures.element;
      so_far = λ a gives.
          let next = dot_more (times f) a (λ k. get_or c.args.right.now k 0) j c.loop-j.total c.left.result _ (c.loop-j.invariant.so_far a gives) (gives j c.left.result (omega arith) c.left.ensures) refl in
          cc (c.mul_add-total.ensures.value, next);
    }

pub returns-clause-value : goal.returns-clause-value
returns-clause-value g c a gives =
    let f = (g.C.Code.meaning c.args.code.now).field in
    let end : c.loop-j.j ≡ length c.args.right.now = omega arith in
    subst (λ (n : ℕ). c.loop-j.total ≡ dot (times f) n a (λ k. get_or c.args.right.now k 0)) end (c.loop-j.invariant.so_far a gives)
