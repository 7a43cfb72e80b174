-- `search`: k is below the number of rows found, of which there are at most as many as a row has bits.
use mathlib.Core.Logic.{inr}
use native.Mathlib.Omega.{arith}
use Rattle.reduction.proofs.TableSearch.{count_bound}
use Rattle.reduction.proofs.Reduction.search.Goals as goal

-- As many rows are found as there are states, and these are more than are of use.
pub returns-then-most-n : goal.returns-then-most-n
returns-then-most-n c =
    let v = c.loop-k in
    (record { upto = v.k; within = v.invariant.0; searching = v.invariant.1; enough = inr (rw v.invariant.2.source c.if-self-n.true); whole = λ h. absurd (omega arith) }, v.invariant.2, v.invariant.3)

pub loop-k-smaller : goal.loop-k-smaller
loop-k-smaller c = omega (arith, count_bound _ _ _ _ _ _ c.loop-k.invariant.1.search.basis, c.loop-k.self.source.valid.states)
