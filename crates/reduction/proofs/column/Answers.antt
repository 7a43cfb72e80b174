-- `column`: the first i rows are counted.
use mathlib.Core.Path.{◌≡◌, sym, ap, subst, ◌∙◌}
use mathlib.Core.Bool.{◌&&◌}
use Prim.Native.Nat.{◌^◌, ◌<◌}
use native.Mathlib.Omega.{arith}
use Rattle.automata.specs.Xor.{xor_below}
use Rattle.automata.specs.Mask.{bit_of}
use Rattle.rows.specs.Row.{mask}
use Rattle.rows.proofs.BitLaws.{bit_pow, bit_when}
use Rattle.reduction.proofs.TableSearch.{counted_step, counted_low}
use Rattle.reduction.proofs.column.Goals as goal

pub loop-i-preserved : goal.loop-i-preserved
loop-i-preserved c =
    let v = c.loop-i in
    let a = c.args in
    let e = c.get-x.ensures in
    let low = subst (λ x. x < 2 ^ a.n) (sym e) (c.requires.1 v.i (omega arith)) in
    rw c.xor-y.ensures (counted_step a.n a.b.now v.i (mask a.f) (mask v.y) (mask c.when-v.result) c.parity-o.result
    (c.parity-o.ensures a.n low ∙ ap (λ x. xor_below a.n (λ j. bit_of x j && bit_of (mask a.f) j)) e)
    (λ k. ap (λ x. bit_of x k) c.when-v.ensures ∙ bit_when c.parity-o.result (mask c.unit-u.result) k ∙ ap (λ b. c.parity-o.result && b) (ap (λ x. bit_of x k) c.unit-u.ensures ∙ bit_pow v.i k)) v.invariant)

pub returns : goal.returns
returns c =
    let v = c.loop-i in
    let a = c.args in
    let e : v.i ≡ a.d = omega arith in
    (rw e at v.invariant.column, rw e at (counted_low a.n a.b.now v.i (mask a.f) (mask v.y) v.invariant))
