-- `try_row`: there are at most as many rows as bits, and so as rows of a block.
use native.Mathlib.Omega.{arith}
use Rattle.rows.specs.Row.{mask}
use Rattle.record.proofs.Refusals.{good_check}
use Rattle.products.proofs.PairLaws.{row_fits}
use Rattle.reduction.proofs.TableSearch.{count_bound}
use Rattle.search.proofs.TryLaws.{low}
use Rattle.search.proofs.try_row.Goals as goal

pub get-x-requires : goal.get-x-requires
get-x-requires c =
    let a = c.args in
    let H = c.requires.1 in
    (H.base, omega arith, omega (arith, count_bound a.stride a.m.states a.s.count (mask a.s.pivots) H.coef a.b.now H.search.basis, H.fits, c.requires.2))

pub bounds-first-5 : goal.bounds-first-5
bounds-first-5 c = let f = (good_check _ c.requires.0.first).front in omega arith

-- The row has no bit above those of the two.
pub are_single-requires : goal.are_single-requires
are_single-requires c =
    let a = c.args in
    let P = c.requires.0 in
    let x = c.get-x in
    row_fits a.first.now a.second.now P.first P.second c.size-n.result (mask x.result) c.size-n.ensures.0 (low _ _ _ _ _ _ _ _ _ _ P c.requires.1 c.requires.2 x.ensures)
