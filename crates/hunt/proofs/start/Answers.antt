-- `start`: the basis was empty before the initial row.
use mathlib.Core.Path.{sym, subst}
use mathlib.Core.Bool.{Bool, false}
use Prim.Native.Nat.{ℕ}
use Rattle.rows.specs.Row.{mask}
use Rattle.elimination.specs.Place.{BasisIn}
use Rattle.reduction.proofs.TableSearch.{empty_basis, empty_cover}
use Rattle.hunt.proofs.start.Goals as goal

-- No coefficients: there is no row yet.
none_yet : ℕ → ℕ → Bool
none_yet j i = false

pub insert-requires : goal.insert-requires
insert-requires c =
    let a = c.args in
    let n = a.m.states in
    let e = c.none-none in
    (c.requires.0, c.requires.1, c.requires.3, c.requires.2, (none_yet, subst (λ p. BasisIn a.stride n 0 p none_yet a.b.now) (sym e.ensures) (empty_basis a.stride n none_yet a.b.now)), empty_cover a.stride (mask e.result) a.b.now)

pub returns : goal.returns
returns c =
    let a = c.args in
    let e = rw c.none-none.ensures at c.insert.ensures in
    let P = e none_yet (empty_basis a.stride a.m.states none_yet a.b.now) in
    record { coef = none_yet; coef' = P.0; made = P.1; placed = P.2 }
