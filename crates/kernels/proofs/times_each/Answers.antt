-- `times_each`: the row read at k and i is row i of the block named for k.
use Rattle.std.proofs.Common.{rules, get_or}
use Rattle.rows.specs.Table.{at}
use Rattle.kernels.proofs.times_each.Goals as goal

pub returns : goal.returns
returns g c = λ k n h f. c.times_each.ensures (λ k. at c.args.t.now (get_or c.args.l k 0)) (record { row = λ k i r f g p. search rules }) k n h f
