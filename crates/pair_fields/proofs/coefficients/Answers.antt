use Rattle.std.proofs.Common.{ℕ, ◌-◌, ◌%◌, ◌^◌, ◌<◌, ap, ◌∙◌, mod-eq_of_lt, one-mul, bit_and, arith}
use lib.Bits.{and_mask}
use lib.Pow.{pow-lt}
use Rattle.pair_fields.proofs.coefficients.Goals as goal

pub returns-clause-lower : goal.returns-clause-lower
returns-clause-lower c =
    let lt : c.args.w < 16 = omega (arith, c.requires) in
    ap (λ (n : ℕ). bit_and c.args.x (n - 1)) (ap (λ (n : ℕ). n % 2 ^ 16) (one-mul (2 ^ c.args.w)) ∙ mod-eq_of_lt (pow-lt lt)) ∙ and_mask c.args.x c.args.w
