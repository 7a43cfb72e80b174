-- `within`: nothing is left of a mask below 2 ^ n when n bits are shifted out.
use mathlib.Core.Path.{sym}
use Prim.Native.Nat.{◌^◌, ◌<◌}
use native.Mathlib.Nat.{lt_of_lt_of_le}
use borrow.Author.Tests.{lt-ltb}
use lib.Pow.{pow_mono}
use Rattle.rows.specs.Row.{mask}
use Rattle.rows.proofs.BitLaws.{test_within}
use borrow.Author.Rules.{rules}
use Rattle.rows.proofs.within.Goals as goal

fits : (c : goal.Else-n-lt64) → c.args.x.bits < 2 ^ 64
fits c = search rules

pub returns-then-n-lt64 : goal.returns-then-n-lt64
unfolding mask
returns-then-n-lt64 c = test_within c.args.x.bits c.args.n

pub returns-else-n-lt64 : goal.returns-else-n-lt64
unfolding mask
returns-else-n-lt64 c =
    sym (lt-ltb c.args.x.bits (2 ^ c.args.n) (lt_of_lt_of_le (fits c) (pow_mono c.if-n-lt64.false)))
