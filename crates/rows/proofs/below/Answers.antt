-- `below`: 2 ^ n - 1 has every bit below n; of as many bits as a row has, it is the last number.
use mathlib.Core.Path.{◌≡◌}
use Prim.Native.Nat.{◌*◌, ◌%◌, ◌^◌}
use native.Mathlib.Omega.{arith}
use lib.Pow.{pow_pos}
use Rattle.rows.specs.Row.{mask}
use Rattle.rows.proofs.BitLaws.{unit_mask}
use Rattle.rows.proofs.Ones.{ones}
use Rattle.rows.proofs.below.Goals as goal

-- What is shifted stays within the row.
shifted : (c : goal.Then-n-lt64) → (1 * 2 ^ c.args.n) % 18446744073709551616 ≡ 2 ^ c.args.n
shifted c = unit_mask 64 c.args.n (omega (arith, c.if-n-lt64.true))

pub returns-then-n-lt64 : goal.returns-then-n-lt64
unfolding mask
returns-then-n-lt64 c = let n = c.args.n in rw (shifted c) (omega (arith, pow_pos n), (ones n).set)

pub returns-else-n-lt64 : goal.returns-else-n-lt64
unfolding mask
returns-else-n-lt64 c =
    let e : c.args.n ≡ 64 = omega (arith, c.if-n-lt64.false, c.requires) in
    rw e (omega arith, (ones 64).set)
