-- `spread`: the pivots stand below their span, and in the block; where the mask lacks the bit, so do the basis rows.
use native.Mathlib.Omega.{arith}
use Rattle.rows.specs.Row.{mask}
use Rattle.rows.proofs.BitLaws.{bit_below}
use Rattle.elimination.proofs.FoldLaws.{folded_pivots}
use Rattle.elimination.proofs.spread.Goals as goal

pub returns-then-has : goal.returns-then-has
returns-then-has c =
    let a = c.args in
    let k = c.min-k in
    folded_pivots a.stride k.result a.n (mask a.p) a.l a.q (mask a.x) a.b.now c.fold.new.b (λ j h e. omega (arith, bit_below c.span.result c.span.ensures.1 j e)) c.fold.ensures
