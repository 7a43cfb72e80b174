-- `minimise`: the mirror is searched, the table folded by what is found, and the folded automaton reduced.
use mathlib.Core.Path.{◌∙◌}
use native.Mathlib.Omega.{arith}
use Rattle.minimisation.proofs.MinimiseLaws.{explored_low, once}
use Rattle.minimisation.proofs.minimise.Goals as goal

pub invariant_of-mirror : goal.invariant_of-mirror
invariant_of-mirror c =
    let v = c.requires.0 in
    let T = c.transposed.ensures in
    record { valid = record { states = v.states; letters = v.letters; size = T.size; initial = omega (arith, v.initial, v.finals); finals = omega (arith, v.initial, v.finals); rows = T.low } }

pub fold-g-requires : goal.fold-g-requires
fold-g-requires c =
    let X = c.explore-s.ensures in
    (c.requires.0, X.found.basis.unit, explored_low _ _ _ _ _ _ _ _ _ X)

pub invariant_of-folded : goal.invariant_of-folded
invariant_of-folded c = record { valid = rw (← c.fold-g.ensures.0) at c.fold-g.ensures.1.bounded }

pub returns : goal.returns
returns c =
    let k = c.fold-g.ensures in
    let z = c.reduce.ensures in
    (z.0 ∙ k.0, once _ _ _ _ _ _ _ _ _ _ _ _ _ _ _ _ _ _ _ _ c.transposed.ensures c.explore-s.ensures k.1 (rw k.0 at z.1))
