-- `explore_rows`: the rows in `done` are tried, and there is one more of them each time.
use Prim.Native.Nat.{◌-◌, ◌^◌}
use Rattle.rows.specs.Row.{width, mask}
use Rattle.observation.specs.Explore.{FoundBy}
use Rattle.observation.proofs.ExploreLaws.{AllTried}
use Rattle.observation.proofs.explore_rows.Given as goal

abbrev pub invariant-loop-r : goal.invariant-loop-r
invariant-loop-r l = FoundBy l.x l.b l.r × AllTried l.x.machine.letters l.x.table.now l.x.machine.states l.b l.r.count (mask l.done)

abbrev pub decreases-loop-r : goal.decreases-loop-r
decreases-loop-r l = 2 ^ width - mask l.done
