-- `renew_block`: the first k rows are renewed, the others are as they were; the last row stored is that of the new state.
use mathlib.Core.Path.{◌≡◌, sym, ap, ap₂, ◌∙◌}
use mathlib.Core.Bool.{cond}
use native.Mathlib.Omega.{arith}
use lib.Bits.{bit_xor}
use Rattle.automata.specs.Mask.{bit_of}
use Rattle.rows.specs.Row.{mask}
use Rattle.rows.specs.Table.{at}
use Rattle.rows.proofs.BesideLaws.{if_low, if_high}
use Rattle.direct_sum.proofs.Changing.{changed_step}
use Rattle.star.proofs.renew_block.Goals as goal

pub loop-k-preserved : goal.loop-k-preserved
loop-k-preserved c =
    let a = c.args in
    let v = c.loop-k in
    let t = a.t.now in
    let x = c.load-x in
    let same : mask x.result ≡ at t a.l v.k = x.ensures ∙ v.invariant.rest v.k (omega arith) (omega arith) in
    let gain : mask c.when-y.result ≡ cond (bit_of (mask a.f) v.k) (mask a.r) 0 = c.when-y.ensures ∙ ap (λ b. cond b (mask a.r) 0) c.has-b.ensures in
    changed_step _ _ _ _ _ _ _ c.requires.0 (omega arith)
    (c.xor-z.ensures ∙ ap₂ bit_xor same gain
    ∙ sym (if_low v.k a.n (bit_xor (at t a.l v.k) (cond (bit_of (mask a.f) v.k) (mask a.r) 0)) (mask a.r) c.loop-k-test.true))
    c.store.ensures v.invariant

pub returns : goal.returns
returns c =
    let a = c.args in
    let v = c.loop-k in
    let t = a.t.now in
    let e : v.k ≡ a.n = omega arith in
    changed_step _ _ _ _ _ _ _ c.requires.0 c.requires.1
    (sym (if_high a.n a.n (bit_xor (at t a.l a.n) (cond (bit_of (mask a.f) a.n) (mask a.r) 0)) (mask a.r) (omega arith)))
    c.store-2.ensures (rw e at v.invariant)
