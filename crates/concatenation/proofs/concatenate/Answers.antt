-- `concatenate`: the first one's rows opened, those of the second beside them.
use mathlib.Core.Path.{refl, subst}
use Rattle.rows.specs.Row.{mask}
use Rattle.rows.specs.Machine.{Bounded}
use Rattle.rows.proofs.BesideLaws.{moved_fits}
use Rattle.concatenation.proofs.BuiltLaws.{concatenation_built}
use Rattle.concatenation.proofs.concatenate.Goals.{Start}
use Rattle.concatenation.proofs.concatenate.Goals as goal

-- The second automaton is over the first one's letters.
second : (s : Start) → Bounded s.args.g.letters s.args.u.now s.args.h.states (mask s.args.h.initial) (mask s.args.h.finals)
second s = subst (λ a. Bounded a s.args.u.now s.args.h.states (mask s.args.h.initial) (mask s.args.h.finals)) s.requires.2 s.requires.1

pub moved-start-requires : goal.moved-start-requires
moved-start-requires c =
    let a = c.args in
    (c.requires.3, moved_fits a.g.states a.h.states (mask a.h.initial) c.requires.1.initial c.requires.4)

pub moved-finals-requires : goal.moved-finals-requires
moved-finals-requires c =
    let a = c.args in
    (c.requires.3, moved_fits a.g.states a.h.states (mask a.h.finals) c.requires.1.finals c.requires.4)

pub returns : goal.returns
returns c =
    let a = c.args in
    let x = c.moved-start in
    let o = c.open_rows in
    let j = c.join in
    concatenation_built a.t.now o.new.t a.u.now j.new.t a.g a.h c.requires.0 (second (goal.at.returns c).Start) (mask x.result) x.ensures o.ensures j.ensures c.requires.4 _ refl refl
    (c.opened-initial.ensures a.g.states c.requires.0.initial) c.moved-finals.ensures
