-- `join_block`: the first j rows of the second stand after those of the first.
use mathlib.Core.Path.{ap, ◌∙◌}
use Prim.Native.Nat.{◌*◌, ◌^◌}
use native.Mathlib.Omega.{arith}
use Rattle.rows.specs.Row.{mask}
use Rattle.rows.proofs.BesideLaws.{moved_fits}
use Rattle.direct_sum.proofs.SumLaws.{joined_step}
use Rattle.direct_sum.proofs.join_block.Goals as goal

pub moved-y-requires : goal.moved-y-requires
moved-y-requires c =
    let v = c.loop-j in
    let a = c.args in
    (c.requires.0, moved_fits a.n a.k (mask c.load-x.result) (rw c.load-x.ensures (c.requires.3 v.j c.loop-j-test.true)) c.requires.1)

pub loop-j-preserved : goal.loop-j-preserved
loop-j-preserved c =
    let v = c.loop-j in
    let a = c.args in
    joined_step a.l a.n a.u.now a.t.now v.j v.t c.store.new.t (mask c.moved-y.result) (omega arith) c.requires.2
    (c.moved-y.ensures ∙ ap (λ x. x * 2 ^ a.n) c.load-x.ensures) c.store.ensures v.invariant
