-- `times`: the groups passed have given their part of the product, and z has the bits to come.
use Rattle.lookup.proofs.LookupLaws.{lookup_none, bits_none, lookup_step, bits_step}
use Rattle.lookup.proofs.Lookup.times.Goals as goal

pub loop-g-init : goal.loop-g-init
loop-g-init c = (bits_none c.args.x.bits, λ M T. lookup_none c.args.x.bits M)

pub loop-g-preserved : goal.loop-g-preserved
loop-g-preserved c =
    let v = c.loop-g in
    let t = c.args.self.now in
    let x = c.args.x.bits in
    (bits_step v.g x v.z v.invariant.0, λ M T. lookup_step t.groups v.g M t.entries x v.z v.y T c.loop-g-test.true v.invariant.0 (v.invariant.1 M T))
