-- `place`: the key where it stands, the script's end where the key stops the marking, else where the reader stands.
use Rattle.std.proofs.Common.{◌≡◌, sym, ap, ◌∙◌, arith, Some}
use Rattle.walk.specs.Walk.{place_of}
use Rattle.walk.proofs.Reader.{onward, key_only, key_passed, place_first, place_second, place_after}
use Rattle.walk.proofs.place.Goals.{After-part_of_index}
use Rattle.walk.proofs.place.Goals as goal

-- Where the reader has been brought to.
read : (c : After-part_of_index) → onward c.args.script.now c.part_of_index.result ≡ place_of c.args.script.now c.args.index
read c =
    let s = c.args.script.now in
    let on = key_passed s (λ e. c.if-first-script.false (c.past-first.ensures ∙ sym (place_second s) ∙ e)) in
    place_after s on c.args.index (omega arith) c.part_of_index.result c.part_of_index.ensures

pub returns-then-index-eq0 : goal.returns-then-index-eq0
returns-then-index-eq0 c =
    let a = c.args in
    sym (ap (place_of a.script.now) c.if-index-eq0.true ∙ place_first a.script.now)

pub returns-then-first-script : goal.returns-then-first-script
returns-then-first-script c =
    let s = c.args.script.now in
    c.if-first-script.true ∙ key_only s (place_second s ∙ sym c.past-first.ensures ∙ c.if-first-script.true) c.args.index (omega arith)

pub returns-in-Some-Ok : goal.returns-in-Some-Ok
returns-in-Some-Ok c =
    let i = c.in-Some-Ok in
    sym (ap (onward c.args.script.now) (i.is ∙ ap Some i.field-0-is)) ∙ read (goal.at.returns-in-Some-Ok c).After-part_of_index

pub returns-in-Some-Err : goal.returns-in-Some-Err
returns-in-Some-Err c =
    let i = c.in-Some-Err in
    sym (ap (onward c.args.script.now) (i.is ∙ ap Some i.field-0-is)) ∙ read (goal.at.returns-in-Some-Err c).After-part_of_index

pub returns-in-None : goal.returns-in-None
returns-in-None c = sym (ap (onward c.args.script.now) c.in-None.is) ∙ read (goal.at.returns-in-None c).After-part_of_index
