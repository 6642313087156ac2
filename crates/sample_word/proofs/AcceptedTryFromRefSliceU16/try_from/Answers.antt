use Rattle.std.proofs.Common.{◌≡◌, length, Err, sym, ap, ◌∙◌, arith, rules}
use Rattle.faults.specs.Table.{told_at}
use Rattle.binary_fields.specs.Tables.{table_meaning}
use Rattle.codes.specs.Words.{Message}
use Rattle.sample_word.specs.Answers.{accept_answer}
use Rattle.sample_word.specs.Sample.{sample}
use Rattle.sample_word.proofs.Refusals.{present, told, symbol_refused, message_granted}
use Rattle.sample_word.proofs.AcceptedTryFromRefSliceU16.try_from.Goals as goal

pub returns-in_err-map_err : goal.returns-in_err-map_err
returns-in_err-map_err c =
    let i = c.loop-i.i-counter in
    let whole = present c.as_array.result c.in_ok-symbols.symbols _ _ c.as_array.ensures.cases c.in_ok-symbols.ensures.ok_part in
    let long : length c.in_ok-symbols.symbols.now ≡ 7 = ap length whole.same ∙ whole.long in
    let e = c.field.ensures ∙ ap table_meaning c.sample_code-code.ensures in
    let (fault, refused, at_i) = told c.element.result i c.in_err-map_err.field-0.0 _ c.in_err-map_err.ensures.cases (λ e k. search rules) in
    let returned : c.from_residual-in_err-map_err.result ≡ Err (told_at fault i) = search rules in
    rw (returned, ← whole.same)
    (symbol_refused (table_meaning c.field.result.now) c.in_ok-symbols.symbols.now i fault e long (omega arith) c.loop-i.invariant (refused ∙ c.element.ensures))

pub returns : goal.returns
returns c =
    let m = c.in_ok-symbols.symbols.now in
    let whole = present c.as_array.result c.in_ok-symbols.symbols _ _ c.as_array.ensures.cases c.in_ok-symbols.ensures.ok_part in
    let M : Message sample m = record { long = ap length whole.same ∙ whole.long; elements = λ k h. c.loop-i.invariant k (omega arith) } in (
      ap accept_answer (sym whole.same) ∙ message_granted m M,
      whole.same,
    )
