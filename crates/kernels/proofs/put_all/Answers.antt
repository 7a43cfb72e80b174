-- `put_all`: the rows passed are written.
use Rattle.std.proofs.Common.{arith}
use Rattle.rows.specs.Row.{mask_at}
use Rattle.kernels.proofs.LineLaws.{put_step}
use Rattle.kernels.proofs.put_all.Goals as goal

pub loop-k-preserved : goal.loop-k-preserved
unfolding mask_at
loop-k-preserved g c = rw c.put.ensures (put_step c.args.l c.loop-k.k c.args.x c.args.s.now c.loop-k.s (omega (arith, c.loop-k.invariant.size)) c.loop-k.invariant)
