use Rattle.std.proofs.Common.{◌≡◌, ◌+◌, [], map, get_or, None, Err, string_bytes, sym, ap, ◌∙◌, arith, rules}
use Rattle.std.proofs.lemmas.List.{length-map, get_or-map}
use Rattle.faults.specs.Table.{not_a_number}
use Rattle.sample_word.specs.Numbers.{number_of}
use Rattle.sample_word.proofs.Refusals.{text_refused, texts_granted}
use Rattle.sample_word.proofs.numbers.Goals as goal

pub returns-in_err-message : goal.returns-in_err-message
returns-in_err-message c =
    let xs = c.args.arguments.now in
    let i = c.loop-i.i in
    let l = length-map xs string_bytes in
    let none : c.number.result ≡ None = c.in_err-message.ensures.ok_part in
    let e : number_of (get_or (map string_bytes xs) i []) ≡ None =
    ap number_of (get_or-map string_bytes xs i c.index-arguments-i.result [] (omega arith) ∙ sym c.as_bytes.ensures.value) ∙ sym c.number.ensures ∙ none in
    let returned : c.from_residual.result ≡ Err (not_a_number (i + 1)) = search rules in
    returned
    ∙ sym (text_refused (map string_bytes xs) c.loop-i.message i (omega arith) c.loop-i.invariant.read e)

pub returns : goal.returns
returns c =
    let xs = c.args.arguments.now in
    let m = c.loop-i.message in
    let l = length-map xs string_bytes in
    texts_granted (map string_bytes xs) m (omega arith) (λ k h. c.loop-i.invariant.read k (omega arith))
