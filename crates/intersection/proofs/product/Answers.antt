-- `product`: the rows, the initial row and the final column are Kronecker products.
use mathlib.Core.Path.{refl, subst}
use Rattle.rows.specs.Row.{mask}
use Rattle.rows.specs.Machine.{Bounded}
use Rattle.intersection.proofs.KronLaws.{meet_built}
use Rattle.intersection.proofs.product.Goals.{Start}
use Rattle.intersection.proofs.product.Goals as goal

-- The second automaton is over the first one's letters.
second : (s : Start) → Bounded s.args.g.letters s.args.u.now s.args.h.states (mask s.args.h.initial) (mask s.args.h.finals)
second s = subst (λ a. Bounded a s.args.u.now s.args.h.states (mask s.args.h.initial) (mask s.args.h.finals)) s.requires.2 s.requires.1

pub returns : goal.returns
returns c =
    let a = c.args in
    let x = c.cross in
    meet_built a.t.now a.u.now x.new.out a.g a.h c.requires.0 (second (goal.at.returns c).Start) x.ensures c.requires.3 _ refl refl c.kron-initial.ensures c.kron-finals.ensures
