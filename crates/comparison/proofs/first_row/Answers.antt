-- `first_row`: the search over both side by side, and the side that accepts the row found.
use Rattle.rows.specs.Row.{mask}
use Rattle.verdict.proofs.RowLaws.{side_told}
use Rattle.comparison.proofs.JudgeLaws.{judged_same, judged_differs}
use Rattle.comparison.proofs.first_row.Goals as goal

pub returns-in-Continue : goal.returns-in-Continue
returns-in-Continue c =
    let a = c.args in
    let f = c.first_accepted in
    let z = c.in-Continue.field-0 in
    judged_same a.first.now a.second.now a.m c.requires.2.paired a.stride f.new.b f.new.w z.count (mask z.pivots) (mask z.used) c.in-Continue.ensures

pub returns-in-Break : goal.returns-in-Break
returns-in-Break c =
    let a = c.args in
    let bs = a.first.now in
    let U = c.requires.2 in
    let x = c.in-Break.found in
    let s = c.parted.result.side in
    rw c.parted.ensures.row (judged_differs bs a.second.now a.m U.paired c.first_accepted.new.w x.number (mask x.row) s (side_told bs U.paired.first (mask a.g) (mask x.row) s U.column c.parted.ensures.side) c.in-Break.ensures)
