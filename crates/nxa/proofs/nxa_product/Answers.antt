-- `nxa_product`: the reply of what the service answers, and its numbers; its claims are of the answer that a host reads off the reply.
use mathlib.Core.Path.{refl}
use lib.ListN.{length}
use Rattle.record.specs.Record.{letters_of}
use Rattle.record.specs.Outcome.{answer_in}
use Rattle.operands.specs.Meant.{meant_over}
use Rattle.operations.specs.Operations.{product_outcome, GivesProduct}
use Rattle.replies.specs.Reply.{of_written, written_in}
use Rattle.nxa.proofs.Granted.{written_readable, told}
use Rattle.nxa.proofs.Operations.{product_numbers, product_among}
use Rattle.nxa.proofs.nxa_product.Goals as goal

pub returns : goal.returns
returns c =
    let a = c.args in
    let bs = a.first.now in
    let cs = meant_over (letters_of bs) a.second.now in
    let buf = a.out.now in
    let w = c.product in
    let read = written_readable product_numbers refl (product_outcome bs cs (length buf)) w.result (product_among bs cs (length buf)) w.ensures.answer in
    let t = told of_written written_in product_numbers w.result (answer_in (product_outcome bs cs) buf) c.from.result _ (GivesProduct bs cs w.new.out) c.from.ensures read (w.ensures.answer, (w.ensures.buffer, w.ensures.claims)) in
    record { reply = t.0; numbers = t.1.0; buffer = t.1.1.0; claims = t.1.1.1 }
