-- `pass_rows`: the rows from k to j are done for every trail.
use mathlib.Core.List.{List}
use native.Mathlib.Omega.{arith}
use Rattle.rows.specs.Row.{mask}
use Rattle.basis.specs.Basis.{cell}
use Rattle.lookup.specs.Lookup.{chosen}
use Rattle.trail.specs.declared.Step.{Step}
use Rattle.reduction.proofs.TableSearch.{count_bound}
use Rattle.hunt.specs.Both.{beside_of}
use Rattle.hunt.specs.Hunt.{HuntingIn}
use Rattle.hunt.proofs.BothLaws.{paired_rows}
use Rattle.search.proofs.TryLaws.{found_below}
use Rattle.search.proofs.PassLaws.{row_kept}
use Rattle.search.proofs.pass_rows.Goals.{At-loop-j}
use Rattle.search.proofs.pass_rows.Goals as goal

-- Where row j is next; the search is there for some trail.
next : (c : At-loop-j) → (w : List Step) × HuntingIn c.args.stride c.args.first.now c.args.second.now c.args.m c.args.b.now w c.args.s c.loop-j.j 0
next c = (c.requires.1.0, c.loop-j.invariant c.requires.1.0 c.requires.1.1)

pub get-x-requires : goal.get-x-requires
get-x-requires c =
    let a = c.args in
    let H = (next (goal.at.get-x-requires c).At-loop-j).1 in
    (H.base, omega arith, omega (arith, c.loop-j-test.true, count_bound a.stride a.m.states a.s.count (mask a.s.pivots) H.coef a.b.now H.search.basis, H.fits))

pub are_kept-requires : goal.are_kept-requires
are_kept-requires c =
    let a = c.args in
    let v = c.loop-j in
    let N = next (goal.at.are_kept-requires c).At-loop-j in
    (c.requires.0, found_below a.stride a.m.letters (beside_of a.first.now a.second.now) a.m.states (mask a.m.initial) (mask a.m.finals) a.b.now N.0 a.s.count v.j 0 (mask a.s.pivots) (mask a.s.used) (mask c.get-x.result) N.1 c.loop-j-test.true c.get-x.ensures)

pub loop-j-preserved : goal.loop-j-preserved
loop-j-preserved c =
    let a = c.args in
    let m = a.m in
    let bs = a.first.now in
    let cs = a.second.now in
    let v = c.loop-j in
    let tab = c.fill.new.self in
    let t = c.fill.ensures in
    let x = c.get-x in
    let h = c.loop-j-test.true in
    λ w H. row_kept a.stride m.letters (beside_of bs cs) m.states (mask m.initial) (mask m.finals) (paired_rows bs cs m c.requires.0) a.b.now w a.s.count (mask a.s.pivots) (mask a.s.used) tab.groups t.0 v.j (mask x.result) h x.ensures (c.are_kept.ensures c.if-not-are_kept.false (chosen (mask a.s.pivots) (cell a.stride a.b.now 0)) t.1) (v.invariant w H)
