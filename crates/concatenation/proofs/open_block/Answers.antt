-- `open_block`: the first k rows are opened, the others are as they were.
use mathlib.Core.Path.{◌≡◌, sym, ap, subst, ◌∙◌}
use Prim.Native.Nat.{◌^◌, ◌<◌}
use native.Mathlib.Omega.{arith}
use Rattle.rows.specs.Row.{mask}
use Rattle.rows.specs.Table.{at}
use Rattle.direct_sum.proofs.Changing.{changed_step}
use Rattle.concatenation.specs.Opened.{opened}
use Rattle.concatenation.proofs.open_block.Goals as goal

pub loop-k-preserved : goal.loop-k-preserved
loop-k-preserved c =
    let a = c.args in
    let v = c.loop-k in
    let x = c.load-x in
    let same : mask x.result ≡ at a.t.now a.l v.k = x.ensures ∙ v.invariant.rest v.k (omega arith) (omega arith) in
    let y = c.opened-y.ensures a.n (subst (λ z. z < 2 ^ a.n) (sym same) (c.requires.2 v.k (omega arith))) in
    changed_step _ _ _ _ _ _ _ c.requires.0 (omega arith) (y ∙ ap (opened a.n (mask a.f) (mask a.start)) same) c.store.ensures v.invariant
