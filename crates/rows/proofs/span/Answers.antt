-- `span`: at least what the leading zeros leave of the width.
use Prim.Native.Nat.{◌-◌, ◌*◌, ◌/◌, ◌≤◌}
use native.Mathlib.Nat.{lt_of_lt_of_le}
use native.Mathlib.Omega.{arith}
use borrow.Author.Rules.{rules}
use lib.Count.{count_leading_zeros, leading_length}
use lib.Pow.{pow_mono}
use Rattle.rows.specs.Row.{mask}
use Rattle.rows.proofs.span.Goals as goal

pub returns : goal.returns
unfolding mask
returns c =
    let x = c.args.x.bits in
    let l = leading_length 64 x (search rules) in
    let up : l.0 ≤ (67 - count_leading_zeros 64 x) / 4 * 4 = omega (arith, l.1) in
    (omega arith, lt_of_lt_of_le l.2 (pow_mono up))
