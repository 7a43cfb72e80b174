-- `paired`: the fields of the second record are moved up by the states of the first.
use Prim.Native.Nat.{◌≤◌}
use native.Mathlib.Omega.{arith}
use lib.ListN.{length}
use Rattle.rows.proofs.BesideLaws.{moved_fits}
use Rattle.record.specs.Record.{states_of}
use Rattle.record.proofs.Refusals.{good_check}
use Rattle.hunt.proofs.BothLaws.{field_below}
use Rattle.verdict.proofs.paired.Goals.{Start}
use Rattle.verdict.proofs.paired.Goals as goal

-- A well-formed record has its head, I and F, and at most 32 states.
front : (s : Start) → (15 ≤ length s.args.first.now) × (15 ≤ length s.args.second.now) × (states_of s.args.first.now ≤ 32) × (states_of s.args.second.now ≤ 32)
front s =
    let p = good_check s.args.first.now s.requires.0 in
    let q = good_check s.args.second.now s.requires.1 in
    (omega (arith, p.whole), omega (arith, q.whole), p.front.states, q.front.states)

pub bounds-first-5 : goal.bounds-first-5
bounds-first-5 c = omega (arith, (front (goal.at.bounds-first-5 c).Start).0)

pub bounds-second-5 : goal.bounds-second-5
bounds-second-5 c = omega (arith, (front (goal.at.bounds-second-5 c).Start).1)

pub field_at-requires : goal.field_at-requires
field_at-requires c = omega (arith, (front (goal.at.field_at-requires c).Start).1)

pub moved-i-requires : goal.moved-i-requires
moved-i-requires c =
    let f = front (goal.at.moved-i-requires c).Start in
    let e = c.size-n.ensures.0 in
    (omega (arith, e, f.2), rw (e, c.field_at.ensures) (moved_fits (states_of c.args.first.now) (states_of c.args.second.now) _ (field_below c.args.second.now c.requires.1).0 (omega (arith, f.2, f.3))))

pub field_at-requires-2 : goal.field_at-requires-2
field_at-requires-2 c = omega (arith, (front (goal.at.field_at-requires-2 c).Start).1)

pub moved-f-requires : goal.moved-f-requires
moved-f-requires c =
    let f = front (goal.at.moved-f-requires c).Start in
    let e = c.size-n.ensures.0 in
    (omega (arith, e, f.2), rw (e, c.field_at-2.ensures) (moved_fits (states_of c.args.first.now) (states_of c.args.second.now) _ (field_below c.args.second.now c.requires.1).1 (omega (arith, f.2, f.3))))

pub field_at-requires-3 : goal.field_at-requires-3
field_at-requires-3 c = omega (arith, (front (goal.at.field_at-requires-3 c).Start).0)

pub field_at-requires-4 : goal.field_at-requires-4
field_at-requires-4 c = omega (arith, (front (goal.at.field_at-requires-4 c).Start).0)

pub bounds-first-6 : goal.bounds-first-6
bounds-first-6 c = omega (arith, (front (goal.at.bounds-first-6 c).Start).0)
