use Rattle.std.proofs.Common.{◌≡◌, ℕ, List, [], ◌∷◌, ◌++◌, length, refl, sym, ap, ◌∙◌, add-one, arith, rules}
use Rattle.std.proofs.lemmas.Fn.{fold_over}
use Rattle.std.proofs.iter.Yields.{nat_range_steps}
use Rattle.std.proofs.lemmas.Iterator.{YieldsList-from_range}
use Rattle.std.proofs.lemmas.List.{length_push}
use Rattle.std.proofs.lemmas.List.FromFn.{length-range_with_len}
use Rattle.fields.specs.Polynomials.{power, gf256}
use Rattle.binary_fields.proofs.shift.power_of_two.Goals as goal

first : gf256.roll 0 ≡ 1
unfolding power
first = refl

next : (ys : List ℕ) (x : ℕ) → gf256.roll (length (ys ++ (x ∷ []))) ≡ gf256.product 2 (gf256.roll (length ys))
unfolding power
next ys x = ap gf256.roll (length_push ys x ∙ add-one (length ys))

pub returns : goal.returns
returns c =
    fold_over nat_range_steps (λ x. x) _ (λ ys r. r ≡ gf256.roll (length ys)) _ (λ ys a x b f' j k. rw (next ys x, ← j) (search rules))
    (record { start = 0; end = c.args.i }) _ 1 c.fold.result
    (YieldsList-from_range 0 c.args.i c.args.i refl (omega arith)).runs (sym first) c.fold.ensures.ran
    ∙ ap gf256.roll (length-range_with_len 0 c.args.i)
