-- `times`: the row read at i is row i of the block.
use Rattle.std.proofs.Common.{rules, arith}
use Rattle.rows.specs.Row.{mask_at}
use Rattle.rows.specs.Table.{at}
use Rattle.rows.proofs.times.Goals as goal

pub returns : goal.returns
unfolding mask_at
returns c = λ n h. c.times_each.ensures (λ k. at c.args.t.now c.args.l) (record { row = λ k i r f g p. search rules }) 0 n (omega arith) h
