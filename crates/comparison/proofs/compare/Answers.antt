-- `compare`: the empty word, no word, or the first longer word.
use mathlib.Core.Path.{◌≡◌, sym, ◌∙◌}
use native.Mathlib.Omega.{arith}
use borrow.Author.Tests.{eqb-true}
use Rattle.rows.specs.Row.{mask}
use Rattle.record.proofs.Refusals.{good_check}
use Rattle.hunt.specs.Hunt.{shared}
use Rattle.hunt.proofs.BothLaws.{paired_initial}
use Rattle.verdict.proofs.RowLaws.{side_told, judged_empty, none_initial, none_final}
use Rattle.comparison.proofs.compare.Goals.{After-parity}
use Rattle.comparison.proofs.compare.Goals as goal

-- The first test is for the empty word.
told : (c : After-parity) → c.parity.result ≡ shared c.paired-m.result.states (mask c.paired-m.result.initial) (mask c.paired-m.result.finals)
told c =
    let a = c.args in
    let p = c.paired-m in
    c.parity.ensures p.result.states (paired_initial a.first.now a.second.now p.result p.ensures)

pub field_at-g-requires : goal.field_at-g-requires
field_at-g-requires c =
    omega (arith, (good_check c.args.first.now c.requires.0.0).whole)

pub returns-then-parity : goal.returns-then-parity
returns-then-parity c =
    let a = c.args in
    let p = c.paired-m in
    let g = c.field_at-g in
    let s = c.parted.result.side in
    rw c.parted.ensures.row (judged_empty a.first.now a.second.now p.result p.ensures a.w.now s (side_told a.first.now c.requires.0.0 (mask g.result) (mask p.result.initial) s g.ensures c.parted.ensures.side) (sym (told (goal.at.returns-then-parity c).After-parity) ∙ c.if-parity.true))

-- No state is initial.
pub returns-then-is_none : goal.returns-then-is_none
returns-then-is_none c =
    let a = c.args in
    let p = c.paired-m in
    none_initial a.first.now a.second.now p.result p.ensures (eqb-true (mask p.result.initial) 0 (sym c.is_none.ensures ∙ c.if-is_none.true))

-- No state is final.
pub returns-then-is_none-2 : goal.returns-then-is_none-2
returns-then-is_none-2 c =
    let a = c.args in
    let p = c.paired-m in
    none_final a.first.now a.second.now p.result p.ensures (eqb-true (mask p.result.finals) 0 (sym c.is_none-2.ensures ∙ c.if-is_none-2.true))

pub first_longer-requires : goal.first_longer-requires
first_longer-requires c =
    record { paired = c.paired-m.ensures; trail = c.requires.1; empty = sym (told (goal.at.first_longer-requires c).After-parity) ∙ c.if-parity.false; column = c.field_at-g.ensures }
