-- `try_single`: the row has no bit above those of the two.
use Prim.Native.Nat.{◌+◌, ◌^◌, ◌<◌}
use native.Mathlib.Omega.{arith}
use borrow.Author.Rules.{rules}
use Rattle.rows.specs.Row.{mask}
use Rattle.record.specs.Record.{states_of}
use Rattle.record.proofs.Refusals.{good_check}
use Rattle.search.proofs.TryLaws.{low}
use Rattle.search.proofs.try_single.Goals as goal

pub bounds-second-5 : goal.bounds-second-5
bounds-second-5 c = let f = (good_check _ c.requires.0.second).front in omega arith

pub try_each-requires : goal.try_each-requires
try_each-requires c =
    let P = c.requires.0 in
    let h : mask c.args.x < 2 ^ (states_of c.args.first.now + states_of c.args.second.now) = low _ _ _ _ _ _ _ _ _ _ P c.requires.1 c.requires.2 c.requires.3 in
    search rules
