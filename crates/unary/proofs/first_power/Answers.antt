-- `first_power`: z is the row of one letter.
use mathlib.Core.Path.{sym}
use mathlib.Core.Bool.{true, false}
use native.Mathlib.Omega.{arith}
use Rattle.rows.specs.Row.{mask}
use Rattle.hunt.proofs.BothLaws.{paired_sizes}
use Rattle.verdict.proofs.RowLaws.{side_told, row_start}
use Rattle.unary.specs.Powers.{Powers}
use Rattle.unary.proofs.PowerLaws.{powers_start, powers_told, powers_found, powers_next}
use Rattle.unary.proofs.TryLaws.{initial_again, still_undecided, same_row}
use Rattle.unary.proofs.first_power.Goals.{Else-parity, Start}
use Rattle.unary.proofs.first_power.Goals as goal

pub times_pair-z-requires : goal.times_pair-z-requires
times_pair-z-requires c =
    let a = c.args in
    let P = c.requires.2.paired in
    (P.first, P.second, sym P.same, omega (arith, P.letters, c.requires.1), (row_start a.first.now a.second.now a.m P).below)

-- Both accept the empty word, or neither.
begun : (s : Start) → Powers s.args.first.now s.args.second.now s.args.w.now 0 (mask s.args.m.initial)
begun s = powers_start s.args.first.now s.args.second.now s.args.m s.requires.2.paired s.args.w.now s.requires.2.trail s.requires.2.empty

pub returns-then-parity : goal.returns-then-parity
returns-then-parity c =
    let a = c.args in
    let m = a.m in
    let bs = a.first.now in
    let cs = a.second.now in
    let U = c.requires.2 in
    let q = c.times_pair-z in
    let l = c.link in
    let R = begun (goal.at.returns-then-parity c).Start in
    rw c.parted.ensures.row (powers_found bs cs m U.paired c.requires.1 a.w.now 0 (mask m.initial) R c.requires.0 (mask q.result) q.ensures l.new.w l.ensures
    c.parted.result.side (side_told bs U.paired.first (mask a.g) (mask q.result) c.parted.result.side U.column c.parted.ensures.side) (powers_told bs cs m U.paired c.requires.1 a.w.now 0 (mask m.initial) R c.requires.0 (mask q.result) q.ensures l.new.w l.ensures c.parity.result true c.parity.ensures c.if-parity.true))

-- Just one letter tells them not apart.
one : (c : Else-parity) → Powers c.args.first.now c.args.second.now c.args.w.now 0 (mask c.args.m.initial) → Powers c.args.first.now c.args.second.now c.link.new.w 1 (mask c.times_pair-z.result)
one c R =
    let a = c.args in
    let m = a.m in
    let P = c.requires.2.paired in
    let q = c.times_pair-z in
    let l = c.link in
    powers_next a.first.now a.second.now m P c.requires.1 a.w.now 0 (mask m.initial) R c.requires.0 (mask q.result) q.ensures l.new.w l.ensures
    (powers_told a.first.now a.second.now m P c.requires.1 a.w.now 0 (mask m.initial) R c.requires.0 (mask q.result) q.ensures l.new.w l.ensures c.parity.result false c.parity.ensures c.if-parity.false)

pub returns-then-eq : goal.returns-then-eq
returns-then-eq c =
    let a = c.args in
    let q = c.times_pair-z in
    let k = goal.at.returns-then-eq c in
    initial_again a.first.now a.second.now a.m c.requires.2.paired c.link.new.w (mask q.result) (one k.Else-parity (begun k.Start)) c.requires.1
    (same_row q.result a.m.initial c.eq.result c.eq.ensures c.if-eq.true)

pub powers_in-requires : goal.powers_in-requires
powers_in-requires c =
    let a = c.args in
    let k = goal.at.powers_in-requires c in
    let R = one k.Else-parity (begun k.Start) in
    (c.requires.0, (paired_sizes a.first.now a.second.now a.m c.requires.2.paired).1, omega arith, c.requires.1, still_undecided a.first.now a.second.now a.m a.g a.w.now c.link.new.w c.requires.2 R.trail, R)

pub powers_in-requires-2 : goal.powers_in-requires-2
powers_in-requires-2 c =
    let a = c.args in
    let k = goal.at.powers_in-requires-2 c in
    let R = one k.Else-parity (begun k.Start) in
    (c.requires.0, omega (arith, c.if-m-gt-FEW.false), omega arith, c.requires.1, still_undecided a.first.now a.second.now a.m a.g a.w.now c.link.new.w c.requires.2 R.trail, R)
