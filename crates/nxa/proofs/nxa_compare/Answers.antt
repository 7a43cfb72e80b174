-- `nxa_compare`: the reply of what the service answers, and its numbers; its claims are of the answer that a host reads off the reply.
use lib.ListN.{length}
use Rattle.record.specs.Record.{letters_of}
use Rattle.operands.specs.Meant.{meant_over}
use Rattle.compare.specs.Compare.{compare_answer, Compares}
use Rattle.replies.specs.Reply.{of_compared, compared_in}
use Rattle.nxa.proofs.Granted.{told}
use Rattle.nxa.proofs.Compared.{compare_numbers, compared_readable}
use Rattle.nxa.proofs.nxa_compare.Goals as goal

pub returns : goal.returns
returns c =
    let a = c.args in
    let bs = a.first.now in
    let cs = meant_over (letters_of bs) a.second.now in
    let buf = a.word.now in
    let m = c.compare in
    let read = compared_readable bs cs (length buf) m.result m.ensures.answer in
    let t = told of_compared compared_in compare_numbers m.result (compare_answer bs cs (length buf)) c.from.result _ (Compares bs cs buf m.new.word) c.from.ensures read (m.ensures.answer, (m.ensures.buffer, m.ensures.claims)) in
    record { reply = t.0; numbers = t.1.0; buffer = t.1.1.0; claims = t.1.1.1 }
