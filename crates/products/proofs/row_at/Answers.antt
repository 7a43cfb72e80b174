-- `row_at`: the row of a letter and a state lies within the record.
use mathlib.Core.Path.{◌∙◌}
use Prim.Native.Nat.{◌*◌, ◌≤◌}
use native.Mathlib.Omega.{arith}
use Rattle.record.proofs.Refusals.{Passed, good_check, area}
use Rattle.record.proofs.Held.{row_inside}
use Rattle.products.proofs.row_at.Goals.{Start}
use Rattle.products.proofs.row_at.Goals as goal

passed : (c : Start) → Passed c.args.bytes.now
passed c = good_check _ c.requires.0

few : (c : Start) → c.args.l * c.args.n ≤ 256
few c = let f = (passed c).front in area c.args.l c.args.n (omega arith) (omega arith)

pub overflow_mul-l : goal.overflow_mul-l
overflow_mul-l c = omega (arith, few (goal.at.overflow_mul-l c).Start)

pub field_at-requires : goal.field_at-requires
field_at-requires c =
    row_inside c.args.bytes.now (passed (goal.at.overflow_mul-l c).Start) c.requires.1 c.args.l c.args.i c.requires.2 c.requires.3

pub returns : goal.returns
returns c = c.field_at.ensures ∙ rw c.requires.1
