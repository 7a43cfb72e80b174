-- `nxa_test`: the reply of what the test answers, and its numbers; its claims are of the answer that a host reads off the reply.
use Rattle.record.proofs.Numbers.{check_numbers}
use Rattle.testing.specs.Testing.{test_of, Tests}
use Rattle.replies.specs.Reply.{of_tested, tested_in}
use Rattle.nxa.proofs.Granted.{tested_readable, told}
use Rattle.nxa.proofs.nxa_test.Goals as goal

-- No buffer is lent.
pub returns : goal.returns
returns c =
    let a = c.args in
    let bs = a.«record».now in
    let w = a.word.now in
    let x = c.test in
    let t = told of_tested tested_in check_numbers x.result (test_of bs w) c.from.result (Unit {0}) (Tests bs w) c.from.ensures (tested_readable bs w x.result x.ensures.answer) (x.ensures.answer, (tt, x.ensures.claims)) in
    record { reply = t.0; numbers = t.1.0; claims = t.1.1.1 }
