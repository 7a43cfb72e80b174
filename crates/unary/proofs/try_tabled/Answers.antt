-- `try_tabled`: what the table gives is the product with the two side by side.
use mathlib.Core.Path.{◌≡◌, ◌∙◌}
use Prim.Native.Nat.{ℕ, ◌+◌, ◌*◌, ◌^◌, ◌<◌}
use borrow.Author.Rules.{rules}
use Rattle.rows.specs.declared.Row.{Row}
use Rattle.rows.specs.Row.{mask}
use Rattle.rows.specs.Product.{product}
use Rattle.record.specs.Record.{states_of}
use Rattle.pair_lookup.specs.Rows.{row_beside}
use Rattle.pair_lookup.proofs.RowsLaws.{beside_product}
use Rattle.unary.proofs.try_tabled.Goals as goal

pub try_lengths-requires : goal.try_lengths-requires
try_lengths-requires c =
    let a = c.args in
    let bs = a.first.now in
    let cs = a.second.now in
    let t = c.fill in
    let k = t.new.tab.groups in
    let made = λ (y : Row) (z : ℕ) (h : mask y < 2 ^ (states_of bs + states_of cs)) (e : z ≡ product (k * 4) (mask y) (row_beside bs cs 0)). e ∙ beside_product bs cs 0 k (mask y) h t.ensures.0 in
    search rules
