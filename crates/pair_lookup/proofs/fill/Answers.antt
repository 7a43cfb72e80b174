-- `fill`: the two have no more states together than a table has rows.
use Rattle.std.proofs.Common.{arith, rules}
use Rattle.record.proofs.Refusals.{good_check}
use Rattle.pair_lookup.specs.Rows.{row_beside}
use Rattle.pair_lookup.proofs.fill.Goals as goal

pub fill_rows-requires : goal.fill_rows-requires
fill_rows-requires c =
    let r = c.requires in
    let first = (good_check _ r.0).front.states in
    let second = (good_check _ r.1).front.states in
    (omega arith, λ i h. (r.0, r.1, r.2, r.3, c.size-n.ensures.0, c.size-k.ensures.0))

pub returns : goal.returns
returns c =
    let a = c.args in
    let e = c.fill_rows.ensures in
    rw e.0 (omega arith, e.1 (row_beside a.first.now a.second.now a.l) (record { row = λ i r h p. search rules }))
