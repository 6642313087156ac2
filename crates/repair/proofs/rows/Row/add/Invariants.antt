use Rattle.std.proofs.Common.{◌≡◌, ℕ, ◌<◌, ◌≤◌, get_or}
use lib.Bits.{bit_xor}
use Rattle.erasures.specs.Elimination.{times, Elements}
use Rattle.repair.proofs.rows.Row.add.Given as goal

abbrev pub invariant-loop-j : goal.invariant-loop-j
invariant-loop-j g l =
    let f = (g.C.Code.meaning l.code).field in
    record {
      below : (k : ℕ) → k < l.j → get_or l.x-items k 0 ≡ bit_xor (get_or l.initial.x-items k 0) (times f l.by (get_or l.other.combination k 0));
      above : (k : ℕ) → l.j ≤ k → get_or l.x-items k 0 ≡ get_or l.initial.x-items k 0;
      elements : Elements f l.x-items;
    }
