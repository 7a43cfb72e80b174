-- `fold`: the rows below j are done, those from j on are as they were.
use native.Mathlib.Omega.{arith}
use Rattle.rows.specs.Row.{mask}
use Rattle.elimination.proofs.FoldLaws.{fold_turn}
use Rattle.elimination.proofs.fold.Goals as goal

pub loop-j-preserved : goal.loop-j-preserved
loop-j-preserved c =
    let v = c.loop-j in
    let a = c.args in
    fold_turn a.stride v.j a.l a.q (mask a.x) a.b.now v.b c.put.new.b (mask c.get-e.result) (mask c.when-u.result) (mask c.get-d.result) (mask c.xor.result) c.has-o.result
    c.requires.0 (omega arith) c.requires.3
    c.get-e.ensures c.has-o.ensures c.when-u.ensures c.get-d.ensures c.xor.ensures c.put.ensures v.invariant
