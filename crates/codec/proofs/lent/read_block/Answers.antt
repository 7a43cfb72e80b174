-- `read_block`: the table is filled up to the row at hand.
use native.Mathlib.Omega.{arith}
use Rattle.record.proofs.Refusals.{good_check}
use Rattle.record.proofs.Held.{filled_row}
use Rattle.codec.proofs.lent.read_block.Goals as goal

pub store-requires : goal.store-requires
store-requires c =
    let f = (good_check _ c.args.lent.well_formed).front in
    (omega (arith, c.requires.0, f.letters), omega (arith, c.states-n.ensures.bound, c.loop-i-test.true))

pub loop-i-preserved : goal.loop-i-preserved
loop-i-preserved c =
    let n = c.states-n.ensures in
    let f = (good_check _ c.args.lent.well_formed).front in
    rw c.store.ensures
    (filled_row _ _ c.args.l c.loop-i.i _ (omega (arith, c.requires.0, f.letters)) (omega (arith, n.value, c.loop-i-test.true)) (omega (arith, f.states)) c.row.ensures c.loop-i.invariant)
