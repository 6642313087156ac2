use Rattle.std.proofs.Common.{◌≡◌, length, sym, ◌∙◌, arith}
use Rattle.erasures.specs.Agreement.{held}
use Rattle.repair.proofs.Deciding.{sums_received, answer_none, answer_one, answer_several, row_once, row_within}
use Rattle.repair.proofs.Stepping.{none_is, some_is}
use Rattle.repair.proofs.decide.Goals as goal

pub run-requires-clause-syndrome : goal.run-requires-clause-syndrome
run-requires-clause-syndrome g c j l =
    let m = g.C.Code.meaning c.args.code.now in c.syndrome.ensures.value j l ∙ sums_received m (held m c.args.cells.now) c.args.word c.requires.received j

pub returns-then-contradicted : goal.returns-then-contradicted
returns-then-contradicted g c =
    let made = c.run in
    answer_none (g.C.Code.lawful c.args.code.now) c.args.cells.now made.new.self made.ensures.eliminated c.if-contradicted.ensures

pub returns-then-is_some : goal.returns-then-is_some
returns-then-is_some g c =
    let made = c.run in
    let (p, e) = some_is made.new.self.undetermined (sym c.if-is_some.ensures) in
    answer_several (g.C.Code.lawful c.args.code.now) c.args.cells.now made.new.self made.ensures.eliminated c.if-contradicted.ensures p e

pub fill-requires : goal.fill-requires
fill-requires g c =
    let C = g.C.Code.lawful c.args.code.now in
    let made = c.run in
    let room = C.few_places in
    record {
      within = λ i p l e. let b = row_within C c.args.cells.now made.new.self made.ensures.eliminated i p l e in omega arith;
      once = row_once C c.args.cells.now made.new.self made.ensures.eliminated;
    }

pub returns : goal.returns
returns g c =
    let made = c.run in
    let room : length c.fill.new.word ≡ 512 = omega arith in
    answer_one (g.C.Code.lawful c.args.code.now) c.args.cells.now made.new.self made.ensures.eliminated
    c.args.word c.fill.new.word c.requires.received room c.fill.ensures c.if-contradicted.ensures (none_is made.new.self.undetermined (sym c.if-is_some.ensures))
