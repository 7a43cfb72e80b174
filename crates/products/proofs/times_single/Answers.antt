-- `times_single`: no bit gives no row; one bit gives the row at its place.
use mathlib.Core.Path.{refl, sym, subst, ◌∙◌}
use Prim.Native.Nat.{◌<◌}
use native.Mathlib.Nat.{le_refl}
use native.Mathlib.Omega.{arith}
use borrow.Author.Tests.{eqb-true, eqb-false}
use Rattle.rows.specs.Row.{mask}
use Rattle.rows.proofs.BitLaws.{bit_below}
use Rattle.rows.proofs.ProductLaws.{Left, left_start, left_lowest, left_end}
use Rattle.record.specs.Record.{states_of, row_at}
use Rattle.products.proofs.times_single.Goals.{Else-is_none}
use Rattle.products.proofs.times_single.Goals as goal

pub returns-then-is_none : goal.returns-then-is_none
returns-then-is_none c =
    let a = c.args in
    let x = mask a.x in
    let M = row_at a.bytes.now a.l in
    let z = eqb-true x 0 (sym c.is_none.ensures ∙ c.if-is_none.true) in
    z ∙ left_end M x 0 (subst (λ v. Left M x v 0) z (left_start M x)) (states_of a.bytes.now) c.requires.3

some : (c : Else-is_none) → 0 < mask c.args.x
some c = let d = eqb-false (mask c.args.x) 0 (sym c.is_none.ensures ∙ c.if-is_none.false) in omega (arith, d)

pub row_at-requires : goal.row_at-requires
row_at-requires c = let n = c.requires.1 in (c.requires.0, n, c.requires.2, rw n (bit_below (states_of c.args.bytes.now) c.requires.3 c.lowest.result c.lowest.ensures.1))

pub returns : goal.returns
returns c =
    let a = c.args in
    let x = mask a.x in
    let M = row_at a.bytes.now a.l in
    let q = c.lowest in
    let p = some (goal.at.returns c).Else-is_none in
    left_end M x (mask c.row_at.result) (left_lowest M x x 0 q.result p (le_refl x) q.ensures.1 q.ensures.2 c.row_at.ensures refl (sym (c.requires.4 p)) (left_start M x)) (states_of a.bytes.now) c.requires.3
