-- `clear`: the rows from r up to i have no bit, those below r are as they were.
use native.Mathlib.Omega.{arith}
use Rattle.rows.specs.Row.{mask}
use Rattle.transpose.proofs.BlockLaws.{only_start, clear_start, clear_step}
use Rattle.transpose.proofs.clear.Goals as goal

pub loop-i-init : goal.loop-i-init
loop-i-init c = let a = c.args in (only_start a.l a.t.now c.told-t, clear_start a.l a.r a.t.now)

pub loop-i-preserved : goal.loop-i-preserved
loop-i-preserved c =
    let v = c.loop-i in
    let a = c.args in
    clear_step a.l a.r v.i (mask c.none.result) a.t.now v.t c.store.new.t c.requires.0 (omega arith) (omega arith) c.none.ensures c.store.ensures v.invariant
