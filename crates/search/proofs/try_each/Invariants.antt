-- `try_each`: each letter is tried in turn with the product given for it.
use Rattle.search.proofs.TryLaws.{Trying}
use Rattle.search.proofs.try_each.Given as goal

abbrev pub invariant-loop-l : goal.invariant-loop-l
invariant-loop-l g l = Trying l.first l.second l.m l.stride l.initial.b l.b l.w l.k l.initial.r.count l.l l.r
