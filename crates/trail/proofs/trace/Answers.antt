-- `trace`: the letters from p on are written, and the word of row r is what comes before.
use mathlib.Core.Path.{◌≡◌}
use native.Mathlib.Omega.{arith}
use Rattle.trail.specs.Trail.{by_in}
use Rattle.trail.proofs.TraceLaws.{writing_step, writing_end}
use Rattle.trail.proofs.trace.Goals as goal

pub loop-r-preserved : goal.loop-r-preserved
unfolding by_in
loop-r-preserved c =
    let v = c.loop-r in
    let a = c.args in
    rw c.from-r.ensures (writing_step a.a a.k a.w.now c.requires.0 a.n v.r v.p a.word.now v.word (omega arith) c.requires.2 v.invariant)

pub returns : goal.returns
returns c =
    let v = c.loop-r in
    let a = c.args in
    let z : v.r ≡ 0 = omega arith in
    let e = c.requires.1 in
    rw e (writing_end a.a a.k a.w.now c.requires.0 a.word.now v.word v.p (rw e at c.requires.2) (rw (z, e) at v.invariant))
