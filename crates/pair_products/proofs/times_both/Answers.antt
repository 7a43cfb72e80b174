-- `times_both`: the row in two halves, the products of each, and the entries below l merged.
use mathlib.Core.Path.{refl}
use Prim.Native.Nat.{◌+◌, ◌^◌, ◌≤◌, ◌<◌}
use native.Mathlib.Omega.{arith}
use Rattle.rows.specs.Row.{width, mask}
use Rattle.rows.proofs.BesideLaws.{moved_fits, high_lt, low_lt}
use Rattle.record.specs.Record.{states_of, letters_of, max_states, max_letters}
use Rattle.record.proofs.Refusals.{good_check}
use Rattle.products.proofs.LineLaws.{merged_step, entry_lt, both_merged}
use Rattle.products.proofs.PairLaws.{row_fits}
use Rattle.pair_products.proofs.times_both.Goals.{After-split-p, In-loop-l, Start}
use Rattle.pair_products.proofs.times_both.Goals as goal

-- Both records are small.
first-states : (c : Start) → states_of c.args.first.now ≤ max_states
first-states c = (good_check _ c.requires.0).front.states

second-states : (c : Start) → states_of c.args.second.now ≤ max_states
second-states c = (good_check _ c.requires.1).front.states

letters : (c : Start) → letters_of c.args.first.now ≤ max_letters
letters c = (good_check _ c.requires.0).front.letters

-- The half of the row for the second record.
high : (c : After-split-p) → mask c.split-p.result.high < 2 ^ states_of c.args.second.now
high c =
    rw (c.split-p.ensures.0, c.size-n.ensures.0) (high_lt (states_of c.args.first.now) (states_of c.args.second.now) (mask c.args.x) c.requires.3)

-- Letter l is one of both records.
letter : (c : In-loop-l) → c.loop-l.l < letters_of c.args.first.now
letter c = omega (arith, c.size-a.ensures.0, c.loop-l-test.true)

pub bounds-first-5 : goal.bounds-first-5
bounds-first-5 c = let f = (good_check _ c.requires.0).front in omega arith

pub bounds-first-6 : goal.bounds-first-6
bounds-first-6 c = let f = (good_check _ c.requires.0).front in omega arith

pub split-p-requires : goal.split-p-requires
split-p-requires c =
    let a = c.args in
    let k = c.size-n in
    row_fits a.first.now a.second.now c.requires.0 c.requires.1 k.result (mask a.x) k.ensures.0 c.requires.3

pub times_all-requires : goal.times_all-requires
times_all-requires c =
    (c.requires.0, rw (c.split-p.ensures.1, c.size-n.ensures.0) (low_lt (states_of c.args.first.now) (mask c.args.x)), c.requires.4)

pub times_all-requires-2 : goal.times_all-requires-2
times_all-requires-2 c = (c.requires.1, high (goal.at.times_all-requires-2 c).After-split-p, refl)

pub pick-y-requires : goal.pick-y-requires
pick-y-requires c = omega (arith, letter (goal.at.pick-y-requires c).In-loop-l, letters (goal.at.pick-y-requires c).Start)

pub moved-z-requires : goal.moved-z-requires
moved-z-requires c =
    let n = c.size-n in
    let w = c.times_all-2 in
    let h = c.split-p in
    let small : n.result + states_of c.args.second.now ≤ width = omega (arith, first-states (goal.at.moved-z-requires c).Start, second-states (goal.at.moved-z-requires c).Start, n.ensures.0) in
    let less = entry_lt c.args.second.now (mask h.result.high) w.new.s c.requires.1 w.ensures c.loop-l.l (omega (arith, letter (goal.at.moved-z-requires c).In-loop-l, c.requires.2)) in
    (omega (arith, first-states (goal.at.moved-z-requires c).Start, n.ensures.0), moved_fits n.result (states_of c.args.second.now) (mask c.pick-y.result) (rw c.pick-y.ensures less) small)

pub pick-requires : goal.pick-requires
pick-requires c = omega (arith, letter (goal.at.pick-requires c).In-loop-l, letters (goal.at.pick-requires c).Start)

pub put-requires : goal.put-requires
put-requires c = omega (arith, letter (goal.at.put-requires c).In-loop-l, letters (goal.at.put-requires c).Start)

pub loop-l-preserved : goal.loop-l-preserved
loop-l-preserved c =
    let v = c.loop-l in
    merged_step v.l c.size-n.result c.times_all.new.s c.times_all-2.new.s v.s (omega (arith, letter (goal.at.loop-l-preserved c).In-loop-l, letters (goal.at.loop-l-preserved c).Start))
    c.pick.ensures c.pick-y.ensures c.moved-z.ensures c.xor.ensures c.put.ensures v.invariant

pub returns : goal.returns
returns c =
    let v = c.loop-l in
    let n = c.size-n in
    let h = c.split-p in
    let u = c.times_all in
    let w = c.times_all-2 in
    both_merged c.args.first.now c.args.second.now (mask c.args.x) n.result v.l u.new.s w.new.s v.s c.requires.2 n.ensures.0
    (omega (arith, c.size-a.ensures.0, c.loop-l-test.false)) h.ensures.0 h.ensures.1 u.ensures w.ensures v.invariant
