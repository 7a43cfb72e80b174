-- `times_singles`: the row in two halves, the product of each with its own record.
use mathlib.Core.Path.{sym, subst}
use native.Mathlib.Omega.{arith}
use Rattle.rows.specs.Row.{mask}
use Rattle.record.specs.Record.{states_of, row_at}
use Rattle.products.proofs.PairLaws.{high_part, low_part, pair_product, row_fits, moves_up, product_below}
use Rattle.products.specs.Lines.{Single}
use Rattle.pair_products.proofs.times_singles.Goals as goal

pub split-p-requires : goal.split-p-requires
split-p-requires c =
    let a = c.args in
    row_fits a.first.now a.second.now c.requires.0 c.requires.1 a.n (mask a.x) c.requires.5 c.requires.4

pub times_single-y-requires : goal.times_single-y-requires
times_single-y-requires c =
    let a = c.args in
    let p = c.split-p in
    (c.requires.0, c.requires.5, c.requires.3, low_part (states_of a.first.now) (states_of a.second.now) (mask a.x) a.n (mask p.result.high) (mask p.result.low) c.requires.5 p.ensures.0 p.ensures.1, subst Single (sym p.ensures.1) c.requires.8)

pub times_single-z-requires : goal.times_single-z-requires
times_single-z-requires c =
    let a = c.args in
    let p = c.split-p in
    (c.requires.1, c.requires.6, omega (arith, c.requires.2, c.requires.3), high_part (states_of a.first.now) (states_of a.second.now) (mask a.x) a.n (mask p.result.high) (mask p.result.low) c.requires.5 p.ensures.0 p.ensures.1 c.requires.4, subst Single (sym p.ensures.0) c.requires.7)

pub moved-requires : goal.moved-requires
moved-requires c =
    let a = c.args in
    let z = mask c.times_single-z.result in
    moves_up a.first.now a.second.now c.requires.0 c.requires.1 a.n z c.requires.5 (product_below a.second.now c.requires.1 a.l (mask c.split-p.result.high) z (omega (arith, c.requires.2, c.requires.3)) c.times_single-z.ensures)

pub xor-requires : goal.xor-requires
xor-requires c = tt

pub returns : goal.returns
returns c =
    let a = c.args in
    let p = c.split-p in
    pair_product (states_of a.first.now) (states_of a.second.now) (mask a.x) a.n (mask p.result.high) (mask p.result.low) c.requires.5 p.ensures.0 p.ensures.1
    (row_at a.first.now) (row_at a.second.now) a.l (mask c.times_single-y.result) (mask c.times_single-z.result) (mask c.moved.result) (mask c.xor.result) c.times_single-y.ensures c.times_single-z.ensures c.moved.ensures c.xor.ensures
