use Rattle.std.proofs.Common.{◌≡◌, map, length, string_bytes}
use Rattle.sample_word.proofs.Refusals.{Read}
use Rattle.sample_word.proofs.numbers.Given as goal

abbrev pub invariant-loop-i : goal.invariant-loop-i
invariant-loop-i l = record { long : length l.message ≡ 7; read : Read (map string_bytes l.arguments) l.message l.i }
