-- `pass_rows`: the rows from k to j are done for every trail.
use Rattle.trail.specs.declared.Step.{Step}
use mathlib.Core.List.{List}
use Rattle.hunt.specs.Hunt.{HuntingIn}
use Rattle.search.proofs.pass_rows.Given as goal

abbrev pub invariant-loop-j : goal.invariant-loop-j
invariant-loop-j l = (w : List Step) → HuntingIn l.stride l.first l.second l.m l.b w l.s l.k 0 → HuntingIn l.stride l.first l.second l.m l.b w l.s l.j 0
