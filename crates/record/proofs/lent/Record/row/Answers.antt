-- `row`: the row of a letter and a state lies within the record.
use mathlib.Core.Path.{◌∙◌}
use Prim.Native.Nat.{◌*◌, ◌≤◌, ◌<◌}
use native.Mathlib.Omega.{arith}
use Rattle.record.proofs.Refusals.{good_check, area}
use Rattle.record.proofs.Held.{row_inside}
use Rattle.record.proofs.lent.Record.row.Goals.{After-states-n}
use Rattle.record.proofs.lent.Record.row.Goals as goal

few : (c : After-states-n) → c.args.l * c.states-n.result ≤ 256
few c =
    let f = (good_check _ c.args.self.well_formed).front in
    area c.args.l c.states-n.result (omega (arith, c.requires.0, f.letters)) c.states-n.ensures.bound

pub overflow_mul-l : goal.overflow_mul-l
overflow_mul-l c = omega (arith, few (goal.at.overflow_mul-l c).After-states-n)

pub overflow_add-l : goal.overflow_add-l
overflow_add-l c = omega (arith, few (goal.at.overflow_add-l c).After-states-n)

pub overflow_mul-l-2 : goal.overflow_mul-l-2
overflow_mul-l-2 c = omega (arith, few (goal.at.overflow_mul-l-2 c).After-states-n)

pub overflow_add-l-2 : goal.overflow_add-l-2
overflow_add-l-2 c = omega (arith, few (goal.at.overflow_add-l-2 c).After-states-n)

pub field_at-requires : goal.field_at-requires
field_at-requires c =
    let i : c.args.i < c.states-n.result = rw c.states-n.ensures.value c.requires.1 in
    omega (arith, row_inside _ (good_check _ c.args.self.well_formed) c.states-n.ensures.value c.args.l c.args.i c.requires.0 i)

pub returns : goal.returns
returns c = c.field_at.ensures ∙ rw c.states-n.ensures.value
