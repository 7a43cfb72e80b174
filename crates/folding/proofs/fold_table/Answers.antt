-- `fold_table`: the first l blocks are folded, the others are as they were.
use Rattle.rows.specs.Row.{mask}
use Rattle.folding.proofs.RowLaws.{blocks_step}
use Rattle.folding.proofs.fold_table.Goals as goal

pub loop-l-preserved : goal.loop-l-preserved
loop-l-preserved c =
    let v = c.loop-l in
    let a = c.args in
    blocks_step v.l a.n (mask a.p) a.tab.now.groups a.tab.now.entries a.t.now v.t c.fold_rows.new.t c.requires.1 c.fold_rows.ensures v.invariant
