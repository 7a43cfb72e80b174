-- `combine`: the answer and the buffer by the checks and by the result, for the record that the second one stands for; the claims follow.
use mathlib.Core.Path.{◌≡◌, sym, ◌∙◌}
use Rattle.record.specs.Record.{letters_of}
use Rattle.record.proofs.Refusals.{returned}
use Rattle.operands.specs.Meant.{meant_over}
use Rattle.operands.proofs.PairLaws.{both_passed, pair_good, pair_refused}
use Rattle.operations.proofs.OperationLaws.{binary_service}
use Rattle.operations.proofs.combine.Goals as goal

pub returns-in_err-pair : goal.returns-in_err-pair
returns-in_err-pair g c =
    let a = c.args in
    let o = g.O.Binary in
    let bs = a.first.now in
    let cs = meant_over (letters_of bs) a.second.now in
    let e = rw c.meant-right.ensures at c.in_err-pair.ensures in
    let p = (binary_service o.words o.make g.met.O.Binary.accepted bs cs a.out.now).0 _ c.from_residual.result (pair_refused bs cs _ e) (returned c.from_residual.result c.from_residual.ensures.1) in
    record { answer = p.0; buffer = p.1.0; claims = p.1.1 }

pub returns : goal.returns
returns g c =
    let a = c.args in
    let o = g.O.Binary in
    let bs = a.first.now in
    let cs = meant_over (letters_of bs) a.second.now in
    let f = c.finish in
    let m = c.join_records-m in
    let pair = c.in_ok-pair.pair in
    let one = c.in_ok-pair.ensures.0 in
    let two : pair.second.bytes.now ≡ cs = c.in_ok-pair.ensures.1 ∙ c.meant-right.ensures in
    let passed = both_passed bs cs (sym (pair_good bs cs pair one two)) in
    let built = rw (one, two) at m.ensures.0 in
    let p = (binary_service o.words o.make g.met.O.Binary.accepted bs cs a.out.now).1 m.new.s m.result f.new.out f.result passed built f.ensures.answer f.ensures.buffer in
    record { answer = p.0; buffer = p.1.0; claims = p.1.1 }
