-- `nxa_catalogue`: the reply of what the service answers, and its numbers; its claims are of the answer that a host reads off the reply.
use mathlib.Core.Path.{refl}
use lib.ListN.{length}
use Rattle.record.specs.Outcome.{answer_in}
use Rattle.catalogue.specs.Entries.{catalogue_of, GivesEntry}
use Rattle.replies.specs.Reply.{of_written, written_in}
use Rattle.nxa.proofs.Granted.{catalogue_numbers, catalogue_among, written_readable, told}
use Rattle.nxa.proofs.nxa_catalogue.Goals as goal

pub returns : goal.returns
returns c =
    let a = c.args in
    let buf = a.out.now in
    let w = c.give in
    let read = written_readable catalogue_numbers refl (catalogue_of a.number (length buf)) w.result (catalogue_among a.number (length buf)) w.ensures.answer in
    let t = told of_written written_in catalogue_numbers w.result (answer_in (catalogue_of a.number) buf) c.from.result _ (GivesEntry a.number w.new.out) c.from.ensures read (w.ensures.answer, (w.ensures.buffer, w.ensures.claims)) in
    record { reply = t.0; numbers = t.1.0; buffer = t.1.1.0; claims = t.1.1.1 }
