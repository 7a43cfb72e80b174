-- `renew_rows`: the rows of the letters below l are renewed.
use mathlib.Core.Path.{◌≡◌, subst}
use native.Mathlib.Omega.{arith}
use Rattle.rows.specs.Row.{mask}
use Rattle.rows.specs.Table.{at}
use Rattle.direct_sum.proofs.Changing.{up_to_step}
use Rattle.star.proofs.RenewedLaws.{renewed_same}
use Rattle.star.proofs.renew_rows.Goals as goal

pub loop-l-preserved : goal.loop-l-preserved
loop-l-preserved c =
    let a = c.args in
    let v = c.loop-l in
    let t = a.t.now in
    let r = c.times-r in
    let b = c.renew_block.ensures in
    up_to_step _ _ _ _ _ _ (omega arith) b.others
    (λ k q. subst (λ x. at c.renew_block.new.t v.l k ≡ x)
    (renewed_same a.n (mask a.i) (mask a.f) (mask r.result) (at v.t v.l) (at t v.l) (λ j p. v.invariant.rest v.l j (omega arith) (omega arith)) (r.ensures a.n c.requires.2) k) (b.rows k q)) b.size v.invariant
