-- `put_letters`: the products stand at their places.
use Rattle.std.proofs.Common.{arith}
use Rattle.rows.specs.Row.{mask}
use Rattle.record.specs.Record.{states_of, row_at}
use Rattle.record.proofs.Refusals.{good_check}
use Rattle.products.proofs.LineLaws.{upto_put}
use Rattle.products.proofs.put_letters.Goals as goal

pub put_all-requires : goal.put_all-requires
put_all-requires g c =
    let few = (good_check _ c.requires.0).front.letters in
    (omega arith, (omega arith, c.requires.3.0))

pub returns : goal.returns
returns g c = let bs = c.args.bytes.now in upto_put (row_at bs) (states_of bs) (mask c.args.x) c.times_each-y.ensures c.put_all.ensures c.requires.3
