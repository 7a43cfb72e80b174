-- `all_words`: the blocks below l are filled.
use Rattle.direct_sum.specs.Filled.{Filled}
use Rattle.operations.proofs.all_words.Given as goal

abbrev pub invariant-loop-l : goal.invariant-loop-l
invariant-loop-l l = Filled l.l 1 (λ _ _. 1) l.t
