-- `nxa_mirror`: the reply of what the service answers, and its numbers; its claims are of the answer that a host reads off the reply.
use mathlib.Core.Path.{refl}
use lib.ListN.{length}
use Rattle.record.specs.Outcome.{answer_in}
use Rattle.operations.specs.Operations.{mirror_outcome, Mirrors}
use Rattle.replies.specs.Reply.{of_written, written_in}
use Rattle.nxa.proofs.Granted.{written_readable, told}
use Rattle.nxa.proofs.Operations.{mirror_numbers, mirror_among}
use Rattle.nxa.proofs.nxa_mirror.Goals as goal

pub returns : goal.returns
returns c =
    let a = c.args in
    let bs = a.«record».now in
    let buf = a.out.now in
    let w = c.mirror in
    let read = written_readable mirror_numbers refl (mirror_outcome bs (length buf)) w.result (mirror_among bs (length buf)) w.ensures.answer in
    let t = told of_written written_in mirror_numbers w.result (answer_in (mirror_outcome bs) buf) c.from.result _ (Mirrors bs w.new.out) c.from.ensures read (w.ensures.answer, (w.ensures.buffer, w.ensures.claims)) in
    record { reply = t.0; numbers = t.1.0; buffer = t.1.1.0; claims = t.1.1.1 }
