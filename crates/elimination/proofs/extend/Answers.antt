-- `extend`: the row is added, and the coefficients follow for any that make the basis.
use mathlib.Core.Path.{refl}
use mathlib.Core.Bool.{Bool}
use Prim.Native.Nat.{ℕ}
use lib.Dec.{eqb}
use Rattle.automata.specs.Mask.{bit_of}
use Rattle.rows.specs.Row.{mask}
use Rattle.basis.specs.Basis.{bits}
use Rattle.elimination.proofs.PlaceLaws.{own_of, coef_of, if_same, if_other, place_new, both_below, unused}
use Rattle.elimination.proofs.extend.Goals as goal

-- The new pivot is below n, and there is room for one more row.
pub add-requires : goal.add-requires
add-requires c =
    let a = c.args in
    let q = c.lowest-q in
    let f = both_below a.stride a.n a.s.count (mask a.s.pivots) (mask a.s.used) (mask a.y) a.b.now c.requires.4.0 c.requires.4.1 c.requires.3 (mask a.x) c.requires.6 q.result q.ensures.1 in
    (c.requires.0, c.requires.1, f.0, f.1, c.requires.2, unused a.stride a.n a.s.count (mask a.s.pivots) (mask a.s.used) q.result a.b.now c.requires.4.0 c.requires.4.1 c.requires.5)

pub returns : goal.returns
returns c =
    let a = c.args in
    let n = a.n in
    let d = a.s.count in
    let p = mask a.s.pivots in
    let v = mask a.s.used in
    let y = mask a.y in
    let t = a.b.now in
    let q = c.lowest-q in
    let A = c.add.ensures in
    λ C F.
    let own : ℕ → Bool = own_of n d (bit_of p) C (bit_of y) in
    let new : ℕ → ℕ → Bool = coef_of (bits a.stride t 0) C own q.result in
    (new, λ i. eqb i d, rw (A.1, A.2, A.3) (place_new a.stride n d p v y t C F c.requires.3 (mask a.x) c.requires.6 q.result q.ensures.1 c.requires.5 c.requires.1 t c.add.new.b refl (λ l i h g. refl) A.0 own (λ i. refl) new (λ j i h f g. if_other j q.result _ _ g) (λ i. if_same q.result _ _) (λ i. eqb i d) (λ i. refl)))
