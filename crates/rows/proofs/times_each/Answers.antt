-- `times_each`: for each matrix, what the bits passed have given, xor what those to come will give, is the product.
use Rattle.std.proofs.Common.{refl, arith}
use Rattle.rows.specs.Row.{mask, mask_at}
use Rattle.rows.proofs.MaskLaws.{mask_at_all}
use Rattle.rows.proofs.ProductLaws.{left_start, left_lowest, left_end}
use Rattle.rows.proofs.LoopLaws.{some_bit, no_bit, cleared_less, cleared_bit}
use Rattle.rows.proofs.times_each.Goals as goal

pub loop-z-init : goal.loop-z-init
loop-z-init g c = (omega arith, λ i b. b, λ M reads k h. rw (mask_at_all g.row.N k c.none-y.result h, c.none-y.ensures) (left_start (M k) (mask c.args.x)))

pub add_rows-requires : goal.add_rows-requires
add_rows-requires g c =
    let low = c.lowest.ensures in
    (omega (arith, c.requires.0), (low.0, λ k h. c.requires.1 k c.lowest.result h low.0 (c.loop-z.invariant.1 c.lowest.result low.1)))

pub loop-z-preserved : goal.loop-z-preserved
loop-z-preserved g c =
    let z = mask c.loop-z.z in
    let some = some_bit z c.is_none.ensures c.loop-z-test.true in
    let less = cleared_less z some c.clear_lowest-z.ensures in
    let low = c.lowest.ensures in
    let i = c.loop-z.invariant in (
      omega (arith, less, i.0),
      λ j b. i.1 j (cleared_bit z j c.clear_lowest-z.ensures b),
      λ M reads k h. left_lowest (M k) (mask c.args.x) z (mask_at c.loop-z.y k) c.lowest.result some i.0 low.1 low.2 refl (c.add_rows.ensures M reads k h) c.clear_lowest-z.ensures (i.2 M reads k h),
    )

pub returns : goal.returns
returns g c = λ M reads k n h f.
    left_end (M k) (mask c.args.x) (mask_at c.loop-z.y k) (rw (no_bit (mask c.loop-z.z) c.is_none.ensures c.loop-z-test.false) at (c.loop-z.invariant.2 M reads k h)) n f
