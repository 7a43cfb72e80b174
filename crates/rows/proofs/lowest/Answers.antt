-- `lowest` is the number of trailing zeros: that bit is set, and none below it.
use borrow.Author.Rules.{rules}
use Rattle.rows.specs.Row.{mask}
use Rattle.rows.proofs.LowestBit.{lowest_set, lowest_first}
use Rattle.rows.proofs.lowest.Goals as goal

pub returns : goal.returns
unfolding mask
returns c =
    let x = c.args.x.bits in
    let l = lowest_set 64 x c.requires (search rules) in
    (l.0, l.1, lowest_first 64 x c.requires (search rules))
