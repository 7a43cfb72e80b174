-- `left_of`: the product with the pivots that y has is taken off.
use native.Mathlib.Omega.{arith}
use Rattle.std.proofs.Common.{rules}
use Rattle.rows.specs.Row.{mask, mask_at}
use Rattle.elimination.proofs.PlaceLaws.{pivots_low, left_of_lem}
use Rattle.elimination.proofs.left_of.Goals as goal

pub times_each-requires : goal.times_each-requires
times_each-requires c =
    let a = c.args in
    let low = pivots_low a.stride a.stride (mask a.y) (mask a.s.pivots) c.and-z.ensures c.requires.1 (omega arith) in
    search rules

pub returns : goal.returns
unfolding mask_at
returns c =
    let a = c.args in
    let times = c.times_each in
    let and = c.and-z in
    left_of_lem a.stride (mask a.s.pivots) (mask a.y) a.b.now (mask and.result) (mask_at times.result 0) (mask c.xor.result) and.ensures (λ n h. times.ensures 0 n (omega arith) h) c.xor.ensures
