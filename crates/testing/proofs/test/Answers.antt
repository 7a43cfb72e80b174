-- `test`: the check refuses for the whole, or the row that the word reaches decides; what is claimed follows from the answer.
use mathlib.Core.Path.{◌≡◌, sym, ◌∙◌}
use Rattle.std.specs.Prelude.{Ok}
use Rattle.record.proofs.Refusals.{told_good, returned}
use Rattle.testing.specs.Testing.{test_of}
use Rattle.testing.proofs.Testing.{reached_accepts, test_refused, test_answer, tests}
use Rattle.testing.proofs.test.Goals as goal

pub returns-in_err-check_as : goal.returns-in_err-check_as
returns-in_err-check_as c =
    let e = returned c.from_residual.result c.from_residual.ensures.1 ∙ sym (test_refused _ _ c.in_err-check_as.ensures) in
    record { answer = e; claims = tests _ _ _ e }

pub returns : goal.returns
returns c =
    let bs = c.args.bytes.now in
    let w = c.args.word.now in
    let t = c.read-m.new.t in
    let m = c.read-m.result in
    let x = c.follow-x in
    let told : Ok c.parity.result ≡ test_of bs w =
    sym (test_answer bs w (told_good _ 1 c.in_ok-check_as.ensures) t m c.read-m.ensures c.parity.result
    (sym (reached_accepts t m c.read-m.ensures.valid w x.result x.ensures) ∙ sym (c.parity.ensures m.states x.ensures.below))) in
    record { answer = told; claims = tests _ _ _ told }
