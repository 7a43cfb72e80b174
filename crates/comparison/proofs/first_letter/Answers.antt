-- `first_letter`: no word of one letter below l is accepted by just one.
use mathlib.Core.Path.{◌≡◌, sym}
use mathlib.Core.Bool.{true, false}
use mathlib.Core.List.{[], ◌∷◌}
use native.Mathlib.Numerals.{add-one}
use native.Mathlib.Omega.{arith}
use Rattle.automata.specs.Xor.{◌⊕◌}
use Rattle.automata.specs.Automaton.{accepts}
use Rattle.automata.proofs.Below.{up_to}
use Rattle.rows.specs.Row.{mask}
use Rattle.record.specs.Record.{automaton_of}
use Rattle.hunt.proofs.BothLaws.{paired_sizes}
use Rattle.verdict.proofs.RowLaws.{side_told, row_start}
use Rattle.comparison.proofs.LetterLaws.{letter_told, letter_tried, letter_found, letters_end}
use Rattle.comparison.proofs.first_letter.Goals as goal

pub times_pair-z-requires : goal.times_pair-z-requires
times_pair-z-requires c =
    let a = c.args in
    let P = c.requires.1.paired in
    (P.first, P.second, sym P.same, omega (arith, P.letters, c.loop-l-test.true), (row_start a.first.now a.second.now a.m P).below)

pub link-requires : goal.link-requires
link-requires c =
    let a = c.args in
    (omega arith, omega arith, omega (arith, c.loop-l-test.true, (paired_sizes a.first.now a.second.now a.m c.requires.1.paired).2))

pub returns-then-parity : goal.returns-then-parity
returns-then-parity c =
    let a = c.args in
    let bs = a.first.now in
    let cs = a.second.now in
    let U = c.requires.1 in
    let v = c.loop-l in
    let q = c.times_pair-z in
    let h = c.loop-l-test.true in
    rw c.parted.ensures.row (letter_found bs cs a.m U.paired U.empty v.l (mask q.result) h q.ensures v.w c.link.new.w v.invariant.0 c.link.ensures
    c.parted.result.side (side_told bs U.paired.first (mask a.g) (mask q.result) c.parted.result.side U.column c.parted.ensures.side)
    (letter_told bs cs a.m U.paired U.empty v.l (mask q.result) h q.ensures c.parity.result true c.parity.ensures c.if-parity.true) v.invariant.1)

pub loop-l-preserved : goal.loop-l-preserved
loop-l-preserved c =
    let a = c.args in
    let bs = a.first.now in
    let cs = a.second.now in
    let U = c.requires.1 in
    let v = c.loop-l in
    let q = c.times_pair-z in
    let h = c.loop-l-test.true in (
      v.invariant.0,
      rw add-one (up_to {Q = λ x. accepts (automaton_of bs) (x ∷ []) ⊕ accepts (automaton_of cs) (x ∷ []) ≡ false} v.l v.invariant.1 (letter_tried bs cs a.m U.paired U.empty v.l (mask q.result) h q.ensures
          (letter_told bs cs a.m U.paired U.empty v.l (mask q.result) h q.ensures c.parity.result false c.parity.ensures c.if-parity.false))),
    )

pub returns : goal.returns
returns c =
    let a = c.args in
    let U = c.requires.1 in
    letters_end a.first.now a.second.now a.m U.paired U.empty c.requires.0 (λ x h. c.loop-l.invariant.1 x (omega (arith, c.loop-l-test.false)))
