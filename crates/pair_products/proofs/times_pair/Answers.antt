-- `times_pair`: the one row of the products with one letter.
use Rattle.std.proofs.Common.{◌≡◌, ◌+◌, subst, arith}
use Rattle.rows.specs.Row.{mask, mask_at}
use Rattle.rows.specs.Product.{product}
use Rattle.rows.specs.Beside.{beside}
use Rattle.record.specs.Record.{states_of, row_at}
use Rattle.pair_products.proofs.times_pair.Goals as goal

pub returns : goal.returns
unfolding mask_at
returns c =
    let a = c.args in
    subst (λ l. mask_at c.times_each_both.result 0 ≡ product (states_of a.first.now + states_of a.second.now) (mask a.x) (beside (row_at a.first.now) (row_at a.second.now) (states_of a.first.now) l))
    (omega arith) (c.times_each_both.ensures 0 (omega arith))
