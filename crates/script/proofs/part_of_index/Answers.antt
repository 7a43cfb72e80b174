-- `part_of_index`: what the reader gives out in a turn is the part of the call's index; if it is no whole record, it is the one that is wanted.
use Rattle.std.proofs.Common.{◌≡◌, arith, refl, ap, ◌∙◌, Some}
use Rattle.script.specs.Script.{part_of_index}
use Rattle.script.proofs.Reading.{given_early}
use Rattle.script.proofs.part_of_index.Goals.{After-next-part}
use Rattle.script.proofs.part_of_index.Goals as goal

-- What a turn gives out.
given : (c : After-next-part) → c.next-part.result ≡ part_of_index c.args.script.now c.loop-call._call
given c = let i = c.loop-call.invariant in rw (← i.reached, ← i.same) c.next-part.ensures.0

pub returns-in-Some-Err : goal.returns-in-Some-Err
returns-in-Some-Err c =
    let i = c.in-Some-Err in
    let g = given (goal.at.returns-in-Some-Err c).After-next-part in
    given_early c.args.script.now c.loop-call._call c.args.index (omega arith) g (i.is ∙ ap Some (rw i.is at i.field-0-is)) refl

pub returns-in-None : goal.returns-in-None
returns-in-None c =
    let g = given (goal.at.returns-in-None c).After-next-part in
    given_early c.args.script.now c.loop-call._call c.args.index (omega arith) g c.in-None.is refl
