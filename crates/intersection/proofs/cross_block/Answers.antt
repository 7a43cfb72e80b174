-- `cross_block`: the rows below k of block l are filled.
use mathlib.Core.Path.{ap₂, ◌∙◌}
use Rattle.direct_sum.proofs.Filling.{filling_step}
use Rattle.intersection.specs.Kron.{kron}
use Rattle.intersection.proofs.cross_block.Goals as goal

pub loop-k-preserved : goal.loop-k-preserved
loop-k-preserved c =
    let a = c.args in
    filling_step _ _ _ _ _ _ _ c.loop-k-test.true c.requires.1 c.requires.2 (c.kron-r.ensures ∙ ap₂ (kron a.n a.m) c.load-x.ensures c.load-y.ensures) c.store.ensures c.loop-k.invariant
