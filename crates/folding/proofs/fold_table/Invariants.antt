-- `fold_table`: the first l blocks are folded, the others are as they were.
use Rattle.rows.specs.Row.{mask}
use Rattle.folding.specs.Folding.{FoldedBlocks}
use Rattle.folding.proofs.fold_table.Given as goal

abbrev pub invariant-loop-l : goal.invariant-loop-l
invariant-loop-l l = FoldedBlocks l.l l.n (mask l.p) l.tab.groups l.tab.entries l.initial.t l.t
