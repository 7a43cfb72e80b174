-- `transpose`: the first l blocks are transposed, the others are as they were.
use Prim.Native.Nat.{◌^◌, ◌≤◌}
use native.Mathlib.Omega.{arith}
use lib.Pow.{pow_mono}
use Rattle.rows.specs.Row.{width, levels}
use Rattle.transpose.proofs.BlockLaws.{cleared_lt}
use Rattle.transpose.proofs.TurnLaws.{turning_low, turning_step}
use Rattle.transpose.proofs.transpose.Goals as goal

pub clear-requires : goal.clear-requires
clear-requires c =
    let w = c.level-w in
    let e : 2 ^ w.result ≤ width = pow_mono {i = w.result} {j = levels} w.ensures.0 in
    rw c.power.ensures (omega arith, w.ensures.1, e)

pub turn-requires : goal.turn-requires
turn-requires c =
    let a = c.args in
    let w = c.level-w in
    let v = c.loop-l in (
      omega arith,
      w.ensures.0,
      cleared_lt v.l a.n (2 ^ w.result) v.t c.clear.new.t w.ensures.1 (turning_low a.a v.l a.n a.t.now v.t (omega arith) c.requires.1 c.requires.2 v.invariant) (rw c.power.ensures at c.clear.ensures.1),
    )

pub loop-l-preserved : goal.loop-l-preserved
loop-l-preserved c =
    let a = c.args in
    let w = c.level-w in
    let v = c.loop-l in
    turning_step v.l a.n w.result a.t.now v.t c.clear.new.t c.turn.new.t c.requires.1 w.ensures.0 w.ensures.1 (rw c.power.ensures at c.clear.ensures) c.turn.ensures v.invariant
