-- `explore`: the basis was empty before the initial row.
use mathlib.Core.Bool.{Bool, false}
use Prim.Native.Nat.{ℕ}
use native.Mathlib.Omega.{arith}
use Rattle.rows.specs.Row.{width}
use Rattle.reduction.proofs.TableSearch.{empty_basis, empty_cover}
use Rattle.observation.proofs.ExploreLaws.{found_start}
use Rattle.observation.proofs.explore.Goals as goal

-- No coefficients: there is no row yet.
none_yet : ℕ → ℕ → Bool
none_yet j i = false

pub insert-s-requires : goal.insert-s-requires
insert-s-requires c =
    let e = c.empty.ensures in
    let v = c.args.x.valid in
    (v.states, v.states, omega arith, v.initial, (none_yet, rw (e.0, e.1) (empty_basis width _ none_yet _)), rw e.0 (empty_cover width _ _))

pub explore_rows-requires : goal.explore_rows-requires
explore_rows-requires c =
    let e = c.empty.ensures in
    let P = (rw (e.0, e.1, e.2) at c.insert-s.ensures) none_yet (empty_basis width _ none_yet _) in
    found_start _ _ _ _ _ _ _ _ _ _ (omega arith) none_yet P.0 P.1 P.2
