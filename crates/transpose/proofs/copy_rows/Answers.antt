-- `copy_rows`: the rows below i are copied.
use native.Mathlib.Omega.{arith}
use Rattle.rows.specs.Row.{mask}
use Rattle.transpose.proofs.CopyLaws.{copy_step}
use Rattle.transpose.proofs.copy_rows.Goals as goal

pub loop-i-preserved : goal.loop-i-preserved
loop-i-preserved c =
    let a = c.args in
    let v = c.loop-i in
    copy_step a.l v.i (mask c.load.result) a.t.now a.c.now v.c c.store.new.t c.requires.0 (omega arith) c.load.ensures c.store.ensures v.invariant
