-- `nxa_mark`: the reply of what the service answers, and its numbers; its claims are of the answer that a host reads off the reply.
use mathlib.Core.Path.{refl}
use lib.ListN.{length}
use Prim.Native.Nat.{◌≤◌}
use Rattle.record.specs.Outcome.{answer_in}
use Rattle.operands.proofs.Numbers.{pair_numbers}
use Rattle.lines.specs.Lines.{longest}
use Rattle.marking.specs.Marking.{mark_line, mark_outcome}
use Rattle.marking.specs.Told.{Marks, SaysRefused}
use Rattle.replies.specs.Reply.{of_written, written_in}
use Rattle.nxa.proofs.Granted.{mark_numbers, mark_among, written_readable, told}
use Rattle.nxa.proofs.nxa_mark.Goals as goal

pub returns : goal.returns
returns c =
    let a = c.args in
    let s = a.script.now in
    let i = a.index in
    let buf = a.out.now in
    let w = c.mark in
    let read = written_readable mark_numbers refl (mark_outcome s i (length buf)) w.result (mark_among s i (length buf)) w.ensures.answer in
    let t = told of_written written_in mark_numbers w.result (answer_in (mark_outcome s i) buf) c.from.result _ (λ x. (length (mark_line s i) ≤ longest) × (Marks s i w.new.out x × SaysRefused pair_numbers w.new.out x)) c.from.ensures read (w.ensures.answer, (w.ensures.buffer, (w.ensures.room, (w.ensures.claims, w.ensures.refusals)))) in
    record { reply = t.0; numbers = t.1.0; buffer = t.1.1.0; room = t.1.1.1.0; claims = t.1.1.1.1.0; refusals = t.1.1.1.1.1 }
