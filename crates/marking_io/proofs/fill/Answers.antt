-- `fill`: each turn puts one line more behind those that stand, and the first index without one ends the text.
use Rattle.std.proofs.Common.{arith}
use Rattle.marking_io.proofs.Lines.{walked_none, walked_more}
use Rattle.marking_io.proofs.fill.Goals as goal

pub loop-index-init : goal.loop-index-init
loop-index-init c = walked_none c.args.script.now c.args.out.now

pub loop-index-preserved : goal.loop-index-preserved
loop-index-preserved c =
    let l = c.loop-index in
    let put = c.put_line-more in
    walked_more
    c.args.script.now
    l.out
    put.new.out
    l.n
    put.result
    l.index
    l.at
    l.invariant
    put.ensures.bytes
    put.ensures.count.0
    (omega (arith, put.ensures.count.0, c.if-more-n.false))
    put.ensures.count.1
    c.past-at.result
    c.past-at.ensures
