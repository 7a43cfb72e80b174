-- `try_line`: the line has the products of the row.
use mathlib.Core.Path.{refl, sym}
use borrow.Author.Rules.{rules}
use Rattle.rows.specs.Row.{mask}
use Rattle.kernels.specs.Products.{Products}
use Rattle.hunt.specs.Both.{beside_of}
use Rattle.hunt.proofs.BothLaws.{paired_sizes}
use Rattle.search.proofs.TryLaws.{low}
use Rattle.search.proofs.try_line.Goals as goal

pub times_both-requires : goal.times_both-requires
times_both-requires c =
    let P = c.requires.0 in
    (P.first, P.second, sym P.same, low _ _ _ _ _ _ _ _ _ _ P c.requires.1 c.requires.2 c.requires.3, refl)

pub try_each-requires : goal.try_each-requires
try_each-requires c =
    let P = c.requires.0 in
    let z = paired_sizes c.args.first.now c.args.second.now c.args.m P in
    let made : Products c.args.m.letters c.args.m.states (mask c.args.x) (beside_of c.args.first.now c.args.second.now) c.times_both.new.s = rw (P.states, P.letters) c.times_both.ensures.1 in
    search rules
