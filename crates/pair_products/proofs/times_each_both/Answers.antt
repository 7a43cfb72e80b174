-- `times_each_both`: the row in two halves, the products of each with the matrices of its own record, and those below k side by side.
use native.Mathlib.Nat.{lt_of_lt_of_le}
use Rattle.std.proofs.Common.{◌+◌, ◌*◌, ◌^◌, ◌<◌, length, refl, rules, arith}
use Rattle.rows.specs.Row.{mask, mask_at}
use Rattle.record.specs.Record.{states_of, row_at}
use Rattle.record.proofs.Refusals.{good_check}
use Rattle.products.proofs.LineLaws.{joined_step}
use Rattle.products.proofs.PairLaws.{high_part, low_part, pair_product, row_fits, moves_up, product_below}
use Rattle.pair_products.proofs.times_each_both.Goals as goal

pub bounds-first-5 : goal.bounds-first-5
bounds-first-5 g c = let f = (good_check _ c.requires.0).front in omega arith

pub split-p-requires : goal.split-p-requires
split-p-requires g c =
    let a = c.args in
    row_fits a.first.now a.second.now c.requires.0 c.requires.1 c.size-n.result (mask a.x) c.size-n.ensures.0 c.requires.4

pub times_each-y-requires : goal.times_each-y-requires
times_each-y-requires g c =
    let a = c.args in
    let k = c.size-n in
    let p = c.split-p in
    let few = (good_check _ c.requires.0).front.letters in
    (omega arith, (c.requires.0, omega arith, low_part (states_of a.first.now) (states_of a.second.now) (mask a.x) k.result (mask p.result.high) (mask p.result.low) k.ensures.0 p.ensures.0 p.ensures.1))

pub times_each-z-requires : goal.times_each-z-requires
times_each-z-requires g c =
    let a = c.args in
    let k = c.size-n in
    let p = c.split-p in
    let few = (good_check _ c.requires.0).front.letters in
    (omega arith, (c.requires.1, omega arith, high_part (states_of a.first.now) (states_of a.second.now) (mask a.x) k.result (mask p.result.high) (mask p.result.low) k.ensures.0 p.ensures.0 p.ensures.1 c.requires.4))

-- What the second record's half makes can be moved up.
pub moved-requires : goal.moved-requires
unfolding mask_at
moved-requires g c =
    let a = c.args in
    let n = c.size-n in
    let k = c.loop-k.k in
    let z = mask_at c.times_each-z.result k in
    moves_up a.first.now a.second.now c.requires.0 c.requires.1 n.result z n.ensures.0
    (product_below a.second.now c.requires.1 (a.l + k) (mask c.split-p.result.high) z (omega arith) (c.times_each-z.ensures k c.loop-k-test.true))

pub loop-k-preserved : goal.loop-k-preserved
unfolding mask_at
loop-k-preserved g c =
    let long : c.loop-k.k < length c.times_each-y.result = search rules in
    joined_step c.loop-k.k c.size-n.result c.times_each-y.result c.times_each-z.result c.loop-k.y c.xor.result long c.moved.ensures c.xor.ensures c.loop-k.invariant

pub returns : goal.returns
returns g c = λ k h.
    let a = c.args in
    let n = c.size-n in
    let p = c.split-p in
    let z = mask_at c.times_each-z.result k in
    pair_product (states_of a.first.now) (states_of a.second.now) (mask a.x) n.result (mask p.result.high) (mask p.result.low) n.ensures.0 p.ensures.0 p.ensures.1
    (row_at a.first.now) (row_at a.second.now) (a.l + k) (mask_at c.times_each-y.result k) z (z * 2 ^ n.result) (mask_at c.loop-k.y k) (c.times_each-y.ensures k h) (c.times_each-z.ensures k h) refl (c.loop-k.invariant.done k (lt_of_lt_of_le h c.loop-k-test.false))
