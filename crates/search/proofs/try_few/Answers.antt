-- `try_few`: the row has no bit above those of the two.
use mathlib.Core.Path.{sym}
use native.Mathlib.Omega.{arith}
use Rattle.search.proofs.TryLaws.{low}
use Rattle.search.proofs.try_few.Goals as goal

pub times_each_both-y-requires : goal.times_each_both-y-requires
times_each_both-y-requires g c =
    let P = c.requires.0 in
    (omega arith, (P.first, P.second, sym P.same, omega (arith, P.letters, c.requires.4), low _ _ _ _ _ _ _ _ _ _ P c.requires.1 c.requires.2 c.requires.3))
