-- `nxa_minimal`: the reply of what the service answers, and its numbers; its claims are of the answer that a host reads off the reply.
use mathlib.Core.Path.{refl}
use lib.ListN.{length}
use Rattle.automata.specs.MinimalOf.{dimension_of}
use Rattle.record.specs.Record.{letters_of, automaton_of}
use Rattle.minimal.specs.Minimal.{minimal_outcome, minimal_answer, GivesMinimal}
use Rattle.replies.specs.Reply.{of_minimised, minimised_in}
use Rattle.nxa.proofs.Granted.{minimal_numbers, minimal_among, minimised_readable, told}
use Rattle.nxa.proofs.nxa_minimal.Goals as goal

pub returns : goal.returns
returns c =
    let a = c.args in
    let bs = a.«record».now in
    let room = length a.out.now in
    let m = c.minimal in
    let read = minimised_readable minimal_numbers refl (minimal_outcome bs room) (dimension_of (letters_of bs) (automaton_of bs)) m.result (minimal_among bs room) m.ensures.answer in
    let t = told of_minimised minimised_in minimal_numbers m.result (minimal_answer bs room) c.from.result _ (GivesMinimal bs m.new.out) c.from.ensures read (m.ensures.answer, (m.ensures.buffer, m.ensures.claims)) in
    record { reply = t.0; numbers = t.1.0; buffer = t.1.1.0; claims = t.1.1.1 }
