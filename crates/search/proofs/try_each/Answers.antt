-- `try_each`: each letter is tried in turn with the product given for it.
use mathlib.Core.Path.{◌≡◌, sym, ap, ◌∙◌}
use native.Mathlib.Omega.{arith}
use Rattle.rows.specs.Row.{mask}
use Rattle.rows.specs.Product.{product}
use Rattle.hunt.specs.Both.{beside_of}
use Rattle.hunt.proofs.HuntLaws.{hunting_next}
use Rattle.search.proofs.try_each.Goals as goal

pub try_pair-requires : goal.try_pair-requires
try_pair-requires g c =
    let v = c.loop-l in
    let a = c.args in
    let h = c.loop-l-test.true in
    (c.requires.0, v.invariant.0, omega (arith, v.invariant.1, c.requires.2), h, (c.requires.3 v.l h).1 c.times-y.result c.times-y.ensures ∙ ap (λ x. product a.m.states x (beside_of a.first.now a.second.now v.l)) (sym v.invariant.2))

pub returns : goal.returns
returns g c =
    let v = c.loop-l in
    let a = c.args in
    let m = a.m in
    let e : v.l ≡ m.letters = omega arith in
    (hunting_next a.stride m.letters (beside_of a.first.now a.second.now) m.states (mask m.initial) (mask m.finals) v.b v.w v.r.count a.k (mask v.r.pivots) (mask v.r.used) (rw e at v.invariant.0), v.invariant.1)
