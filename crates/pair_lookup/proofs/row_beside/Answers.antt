-- `row_beside`: a row of the first record, or of the second, moved up, or none.
use native.Mathlib.Omega.{arith}
use Rattle.rows.specs.Row.{mask}
use Rattle.record.proofs.Refusals.{good_check}
use Rattle.record.proofs.Encode.{row_below}
use Rattle.products.proofs.PairLaws.{moves_up}
use Rattle.pair_lookup.proofs.row_beside.Goals as goal

pub moved-requires : goal.moved-requires
moved-requires c =
    let a = c.args in
    let cs = a.second.now in
    moves_up a.first.now cs c.requires.0 c.requires.1 a.n (mask c.row_at-then-i-n-2.result) c.requires.4
    (rw c.row_at-then-i-n-2.ensures (row_below cs (good_check cs c.requires.1) a.l _ (omega (arith, c.requires.2, c.requires.3)) (omega (arith, c.requires.5, c.if-i-n-2.true, c.if-i-n.false))))
