use Rattle.std.proofs.Common.{◌≡◌, ℕ, List, Ok, sym, ap, subst, arith}
use Rattle.codes.specs.Words.{Word, Carries}
use Rattle.sample_word.specs.Sample.{sample, encoded}
use Rattle.sample_word.proofs.Words.{encoded_word, laid_out}
use Rattle.sample_word.proofs.Accepted.lay_out.Goals as goal

pub returns : goal.returns
returns c =
    let m = c.args.self.now.symbols in
    let e : c.loop-p.x-items ≡ encoded m = laid_out m c.loop-p.x-items c.loop-p.invariant.long (λ k h. c.loop-p.invariant.written k (omega arith)) in
    record {
      value = ap Ok e;
      word = subst (λ (w : List ℕ). Word sample w × Carries sample w m) (sym e) (encoded_word m c.args.self.now.message);
    }
