-- `times_one`: the one row of the products with one letter.
use Rattle.std.proofs.Common.{◌≡◌, subst, arith}
use Rattle.rows.specs.Row.{mask, mask_at}
use Rattle.rows.specs.Product.{product}
use Rattle.record.specs.Record.{states_of, row_at}
use Rattle.products.proofs.times_one.Goals as goal

pub returns : goal.returns
unfolding mask_at
returns c =
    let a = c.args in
    subst (λ l. mask_at c.times_each.result 0 ≡ product (states_of a.bytes.now) (mask a.x) (row_at a.bytes.now l)) (omega arith) (c.times_each.ensures 0 (omega arith))
