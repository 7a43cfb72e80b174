-- `nxa_rewrite`: the reply of what the service answers, and its numbers.
use mathlib.Core.Path.{refl}
use lib.ListN.{length}
use Rattle.record.specs.Outcome.{answer_in, rewrite_of}
use Rattle.replies.specs.Reply.{of_written, written_in}
use Rattle.nxa.proofs.Granted.{rewrite_numbers, rewrite_among, written_readable, told}
use Rattle.nxa.proofs.nxa_rewrite.Goals as goal

-- It has no claims beside the answer and the buffer.
pub returns : goal.returns
returns c =
    let a = c.args in
    let bs = a.«record».now in
    let buf = a.out.now in
    let w = c.rewrite in
    let read = written_readable rewrite_numbers refl (rewrite_of bs (length buf)) w.result (rewrite_among bs (length buf)) w.ensures.answer in
    let t = told of_written written_in rewrite_numbers w.result (answer_in (rewrite_of bs) buf) c.from.result _ (λ x. Unit {0}) c.from.ensures read (w.ensures.answer, (w.ensures.buffer, tt)) in
    record { reply = t.0; numbers = t.1.0; buffer = t.1.1.0 }
