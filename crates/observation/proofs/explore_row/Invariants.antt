-- `explore_row`: the letters below l are done; row k stays, so that the line keeps its products.
use Rattle.observation.specs.Explore.{Tried, Grown, FoundBy}
use Rattle.observation.proofs.explore_row.Given as goal

abbrev pub invariant-loop-l : goal.invariant-loop-l
invariant-loop-l l = FoundBy l.x l.b l.r × Grown l.x.machine.states l.initial.b l.initial.r.count l.b l.r.count × Tried l.l l.x.table.now l.x.machine.states l.b l.r.count l.k
