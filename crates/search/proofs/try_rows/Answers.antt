-- `try_rows`: there are never more rows than bits.
use native.Mathlib.Omega.{arith}
use Rattle.rows.specs.Row.{mask}
use Rattle.reduction.proofs.TableSearch.{count_bound}
use Rattle.hunt.proofs.BothLaws.{paired_sizes}
use Rattle.search.proofs.try_rows.Goals as goal

pub loop-k-smaller : goal.loop-k-smaller
loop-k-smaller c =
    let a = c.args in
    let v = c.loop-k in
    let H = v.invariant.1 in
    omega (arith, count_bound a.stride a.m.states v.r.count (mask v.r.pivots) H.coef v.b H.search.basis, (paired_sizes a.first.now a.second.now a.m c.requires.0).1, c.loop-k-test.true, c.in_ok-t.ensures.2)
