-- `copy`: the first l blocks are copied.
use Rattle.transpose.specs.Exchange.{Copied}
use Rattle.transpose.proofs.copy.Given as goal

abbrev pub invariant-loop-l : goal.invariant-loop-l
invariant-loop-l l = Copied l.l l.n l.t l.c
