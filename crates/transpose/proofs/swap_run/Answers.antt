-- `swap_run`: the pairs whose lower row is from q to r - 1 have exchanged bit b.
use mathlib.Core.Path.{◌≡◌}
use Prim.Native.Nat.{◌+◌, ◌-◌}
use native.Mathlib.Omega.{arith}
use Rattle.rows.specs.Row.{width}
use Rattle.rows.specs.Table.{row}
use Rattle.transpose.proofs.BlockLaws.{only_start, only_then}
use Rattle.transpose.proofs.StageLaws.{stage_start, stage_step}
use Rattle.transpose.proofs.swap_run.Goals as goal

pub loop-r-init : goal.loop-r-init
loop-r-init c = let a = c.args in (only_start a.l a.t.now c.told-t, stage_start a.l a.b a.q width a.t.now)

pub swap-requires : goal.swap-requires
swap-requires c =
    let v = c.loop-r in
    let a = c.args in
    let e : a.q + (v.r - a.q) ≡ v.r = omega arith in
    (c.requires.0, c.requires.1, c.requires.2, omega arith, rw e at (c.requires.4 (v.r - a.q) (omega arith)))

pub loop-r-preserved : goal.loop-r-preserved
loop-r-preserved c =
    let v = c.loop-r in
    let a = c.args in (
      only_then a.l a.t.now v.t c.swap.new.t v.invariant.0 c.swap.ensures.0,
      stage_step a.l a.b a.q v.r (row a.t.now a.l) v.t c.swap.new.t c.requires.1 (omega arith) c.swap.ensures.1 v.invariant.1,
    )
