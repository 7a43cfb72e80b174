-- `place`: where nothing is left y is an xor of the rows that its coefficients name; else the coefficients are changed, then the rows.
use mathlib.Core.Path.{◌≡◌, refl, sym, ◌∙◌}
use mathlib.Core.Logic.{inl, inr}
use Prim.Native.Nat.{ℕ, ◌<◌}
use native.Mathlib.Omega.{arith}
use Rattle.std.proofs.Common.{rules}
use borrow.Author.Tests.{eqb-true}
use Rattle.automata.specs.Mask.{bit_of}
use Rattle.rows.specs.Row.{mask, mask_at}
use Rattle.basis.specs.Basis.{bits}
use Rattle.elimination.specs.Place.{LeftOf}
use Rattle.elimination.specs.Echelon.{onto}
use Rattle.elimination.proofs.PlaceLaws.{left_of_lem, on_pivots, place_old, pivots_low, place_kept, both_below, unused, unused_after}
use Rattle.elimination.proofs.place.Goals.{After-lowest-q, After-xor-left}
use Rattle.elimination.proofs.place.Goals as goal

pub times_each-requires : goal.times_each-requires
times_each-requires c =
    let a = c.args in
    let low = pivots_low a.stride a.n (mask a.y) (mask a.s.pivots) c.and-z.ensures c.requires.3 c.requires.1 in
    search rules

-- What is left of the row.
left : (c : After-xor-left) → LeftOf c.args.stride (mask c.args.s.pivots) (mask c.args.y) c.args.b.now (mask c.xor-left.result)
unfolding mask_at
left c =
    let a = c.args in
    let and = c.and-z in
    let w = c.times_each in
    left_of_lem a.stride (mask a.s.pivots) (mask a.y) a.b.now (mask and.result) (mask_at w.result 0) (mask c.xor-left.result) and.ensures (λ n h. w.ensures 0 n (omega arith) h) c.xor-left.ensures

-- The coefficients of the basis rows that are taken off.
named : (c : After-xor-left) → (i : ℕ) → bit_of (mask_at c.times_each.result 1) i ≡ onto c.args.n (bit_of (mask c.args.s.pivots)) (bits c.args.stride c.args.b.now 2) (bit_of (mask c.args.y)) i
unfolding mask_at
named c =
    let a = c.args in
    let p = mask a.s.pivots in
    let y = mask a.y in
    let and = c.and-z in
    let w = c.times_each in
    on_pivots a.stride a.n p y a.b.now and.ensures 2 (mask_at w.result 1) (w.ensures 1 a.n (omega arith) (pivots_low a.n a.n y p and.ensures c.requires.3 (omega arith)))

pub returns-then-is_none : goal.returns-then-is_none
unfolding mask_at
returns-then-is_none c =
    let a = c.args in
    let t = a.b.now in
    inl (place_old a.stride a.n a.s.count (mask a.s.pivots) (mask a.s.used) (mask a.y) t (bits a.stride t 2) c.requires.4 c.requires.3 (mask c.xor-left.result) (left (goal.at.returns-then-is_none c).After-xor-left) (bit_of (mask_at c.times_each.result 1)) (named (goal.at.returns-then-is_none c).After-xor-left)
    (eqb-true (mask c.xor-left.result) 0 (sym c.is_none.ensures ∙ c.if-is_none.true)))

-- The new pivot is below n, and there is room for one more row.
fits : (c : After-lowest-q) → (c.lowest-q.result < c.args.n) × (c.args.s.count < c.args.n)
fits c =
    let a = c.args in
    let t = a.b.now in
    both_below a.stride a.n a.s.count (mask a.s.pivots) (mask a.s.used) (mask a.y) t (bits a.stride t 2) c.requires.4 c.requires.3 (mask c.xor-left.result) (left (goal.at.unit-u-requires c).After-xor-left) c.lowest-q.result c.lowest-q.ensures.1

pub unit-u-requires : goal.unit-u-requires
unit-u-requires c = omega (arith, fits c, c.requires.0)

pub spread-requires : goal.spread-requires
spread-requires c =
    let a = c.args in
    (omega arith, c.requires.1, c.lowest-q.ensures.0, c.requires.2, unused a.stride a.n a.s.count (mask a.s.pivots) (mask a.s.used) c.lowest-q.result a.b.now (bits a.stride a.b.now 2) c.requires.4 c.requires.5)

pub put-requires : goal.put-requires
put-requires c =
    let f = fits (goal.at.put-requires c).After-lowest-q in
    (omega (arith, c.requires.2, c.spread.ensures.size), omega arith, omega (arith, f, c.requires.1))

pub add-t-requires : goal.add-t-requires
add-t-requires c =
    let a = c.args in
    let l = c.lowest-q in
    let f = fits (goal.at.add-t-requires c).After-lowest-q in
    let U = unused a.stride a.n a.s.count (mask a.s.pivots) (mask a.s.used) l.result a.b.now (bits a.stride a.b.now 2) c.requires.4 c.requires.5 in
    let r = unused_after a.stride a.n (mask a.s.pivots) (mask a.s.used) l.result (mask c.xor-own.result) a.b.now c.spread.new.b c.put.new.b c.requires.1 (omega (arith, f, c.requires.1)) c.requires.2 c.spread.ensures c.put.ensures U in
    (c.requires.0, c.requires.1, f.0, f.1, r.0, r.1)

pub returns : goal.returns
unfolding mask_at
returns c =
    let a = c.args in
    let n = a.n in
    let d = a.s.count in
    let p = mask a.s.pivots in
    let v = mask a.s.used in
    let y = mask a.y in
    let t = a.b.now in
    let q = c.lowest-q in
    let A = c.add-t.ensures in
    inr (rw (A.1, A.2, A.3) (place_kept a.stride n d p v y t (bits a.stride t 2) c.requires.4 c.requires.3 (mask c.xor-left.result) (left (goal.at.returns c).After-xor-left) q.result q.ensures.1
    refl c.requires.5 c.requires.1 c.requires.2 (mask_at c.times_each.result 1) (named (goal.at.returns c).After-xor-left) (mask c.unit-u.result) c.unit-u.ensures (mask c.xor-own.result) c.xor-own.ensures c.spread.new.b c.put.new.b c.add-t.new.b c.spread.ensures c.put.ensures A.0))
