-- `add`: the rows side by side, and so the initial row and the final column.
use mathlib.Core.Path.{refl, ap, subst, ◌∙◌}
use lib.Bits.{bit_xor}
use Rattle.rows.specs.Row.{mask}
use Rattle.rows.specs.Machine.{Bounded}
use Rattle.rows.proofs.BesideLaws.{moved_fits}
use Rattle.operations.proofs.BuiltLaws.{sum_built}
use Rattle.operations.proofs.add.Goals.{Start}
use Rattle.operations.proofs.add.Goals as goal

-- The second automaton is over the first one's letters.
second : (s : Start) → Bounded s.args.g.letters s.args.u.now s.args.h.states (mask s.args.h.initial) (mask s.args.h.finals)
second s = subst (λ a. Bounded a s.args.u.now s.args.h.states (mask s.args.h.initial) (mask s.args.h.finals)) s.requires.2 s.requires.1

pub moved-i-requires : goal.moved-i-requires
moved-i-requires c =
    let a = c.args in
    (c.requires.3, moved_fits a.g.states a.h.states (mask a.h.initial) c.requires.1.initial c.requires.4)

pub moved-f-requires : goal.moved-f-requires
moved-f-requires c =
    let a = c.args in
    (c.requires.3, moved_fits a.g.states a.h.states (mask a.h.finals) c.requires.1.finals c.requires.4)

pub returns : goal.returns
returns c =
    let a = c.args in
    let j = c.join in
    sum_built a.t.now a.u.now j.new.t a.g a.h c.requires.0 (second (goal.at.returns c).Start) j.ensures c.requires.4 _ refl refl
    (c.xor-initial.ensures ∙ ap (bit_xor (mask a.g.initial)) c.moved-i.ensures)
    (c.xor-finals.ensures ∙ ap (bit_xor (mask a.g.finals)) c.moved-f.ensures)
