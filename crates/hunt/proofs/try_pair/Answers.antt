-- `try_pair`: no bits, or an old row, change nothing; a new row is accepted, and ends the search, or is added.
use mathlib.Core.Path.{◌≡◌, refl, sym, subst, ◌∙◌}
use Prim.Native.Nat.{◌^◌, ◌<◌}
use native.Mathlib.Nat.{lt_of_lt_of_le}
use native.Mathlib.Omega.{arith}
use borrow.Author.Tests.{eqb-true, eqb-false}
use lib.Pow.{pow_mono}
use Rattle.rows.specs.Row.{mask}
use Rattle.basis.specs.Basis.{cell}
use Rattle.rows.proofs.ProductLaws.{product_lt}
use Rattle.hunt.specs.Both.{beside_of}
use Rattle.hunt.specs.Hunt.{shared}
use Rattle.hunt.proofs.BothLaws.{paired_sizes, paired_rows}
use Rattle.hunt.proofs.HuntLaws.{none_known, left_known, hunting_old, new_below, hunting_new, stopped_new}
use Rattle.hunt.proofs.try_pair.Goals.{After-parity, Else-is_none-2, Start}
use Rattle.hunt.proofs.try_pair.Goals as goal

-- The product is as short as the rows of the two.
short : (s : Start) → mask s.args.y < 2 ^ s.args.m.states
short s =
    let a = s.args in
    let n = a.m.states in
    let bs = a.first.now in
    let cs = a.second.now in
    subst (λ y. y < 2 ^ n) (sym s.requires.4) (product_lt n n (cell a.stride a.b.now 1 a.k) (beside_of bs cs a.l) (λ i h. paired_rows bs cs a.m s.requires.0 a.l i s.requires.3 h))

-- The product has no bits.
pub returns-then-is_none : goal.returns-then-is_none
returns-then-is_none c =
    let a = c.args in
    let m = a.m in
    let z = eqb-true (mask a.y) 0 (sym c.is_none.ensures ∙ c.if-is_none.true) in
    ((hunting_old a.stride m.letters (beside_of a.first.now a.second.now) m.states (mask m.initial) (mask m.finals) a.b.now a.w.now a.s.count a.k a.l (mask a.s.pivots) (mask a.s.used) c.requires.1 c.requires.2 c.requires.3 (mask a.y) c.requires.4 (none_known a.stride m.states a.s.count (mask a.s.pivots) (mask a.s.used) a.b.now (mask a.y) z), omega arith), refl)

pub left_of-left-requires : goal.left_of-left-requires
left_of-left-requires c = (c.requires.1.base, lt_of_lt_of_le (short (goal.at.left_of-left-requires c).Start) (pow_mono c.requires.1.fits))

-- Nothing is left of it.
pub returns-then-is_none-2 : goal.returns-then-is_none-2
returns-then-is_none-2 c =
    let a = c.args in
    let m = a.m in
    let x = c.left_of-left in
    let z = eqb-true (mask x.result) 0 (sym c.is_none-2.ensures ∙ c.if-is_none-2.true) in
    ((hunting_old a.stride m.letters (beside_of a.first.now a.second.now) m.states (mask m.initial) (mask m.finals) a.b.now a.w.now a.s.count a.k a.l (mask a.s.pivots) (mask a.s.used) c.requires.1 c.requires.2 c.requires.3 (mask a.y) c.requires.4 (left_known a.stride m.states a.s.count (mask a.s.pivots) (mask a.s.used) a.b.now (mask a.y) (short (goal.at.returns-then-is_none-2 c).Start) (mask x.result) x.ensures z), omega arith), refl)

-- Something is left.
some : (c : Else-is_none-2) → 0 < mask c.left_of-left.result
some c =
    let z = eqb-false (mask c.left_of-left.result) 0 (sym c.is_none-2.ensures ∙ c.if-is_none-2.false) in
    omega (arith, z)

pub link-requires : goal.link-requires
link-requires c =
    let a = c.args in
    let m = a.m in
    let z = paired_sizes a.first.now a.second.now m c.requires.0 in
    let x = c.left_of-left in
    let d = new_below a.stride m.letters (beside_of a.first.now a.second.now) m.states (mask m.initial) (mask m.finals) a.b.now a.w.now a.s.count a.k a.l (mask a.s.pivots) (mask a.s.used) c.requires.1 c.requires.2 c.requires.3 (mask a.y) c.requires.4 z.1 (short (goal.at.link-requires c).Start) (mask x.result) x.ensures (some (goal.at.link-requires c).Else-is_none-2) in
    (d, omega (arith, c.requires.2), omega (arith, z.2, c.requires.3))

-- The parity says whether the new row is accepted.
told : (c : After-parity) → mask c.args.y < 2 ^ c.args.m.states → c.parity.result ≡ shared c.args.m.states (mask c.args.y) (mask c.args.m.finals)
told c h = c.parity.ensures c.args.m.states h

pub returns-then-parity : goal.returns-then-parity
returns-then-parity c =
    let a = c.args in
    let m = a.m in
    let hn = (paired_sizes a.first.now a.second.now m c.requires.0).1 in
    let x = c.left_of-left in
    (rw c.link.ensures (stopped_new a.stride m.letters (beside_of a.first.now a.second.now) m.states (mask m.initial) (mask m.finals) a.b.now a.w.now a.s.count a.k a.l (mask a.s.pivots) (mask a.s.used) c.requires.1 c.requires.2 c.requires.3 (mask a.y) c.requires.4 hn (short (goal.at.returns-then-parity c).Start) (mask x.result) x.ensures (some (goal.at.returns-then-parity c).Else-is_none-2) (sym (told (goal.at.returns-then-parity c).After-parity (short (goal.at.returns-then-parity c).Start)) ∙ c.if-parity.true)), refl)

pub extend-requires : goal.extend-requires
extend-requires c =
    let a = c.args in
    let H = c.requires.1 in
    ((paired_sizes a.first.now a.second.now a.m c.requires.0).1, H.fits, H.base, short (goal.at.extend-requires c).Start, (H.coef, H.search.basis), H.cover, c.left_of-left.ensures, some (goal.at.extend-requires c).Else-is_none-2)

pub returns : goal.returns
returns c =
    let a = c.args in
    let m = a.m in
    let hn = (paired_sizes a.first.now a.second.now m c.requires.0).1 in
    let x = c.left_of-left in
    let q = c.extend in
    let r = q.result in
    let N = q.ensures c.requires.1.coef c.requires.1.search.basis in (
      rw c.link.ensures (hunting_new a.stride m.letters (beside_of a.first.now a.second.now) m.states (mask m.initial) (mask m.finals) a.b.now a.w.now a.s.count a.k a.l (mask a.s.pivots) (mask a.s.used) c.requires.1 c.requires.2 c.requires.3 (mask a.y) c.requires.4 hn (short (goal.at.returns c).Start) (mask x.result) x.ensures (some (goal.at.returns c).Else-is_none-2) (sym (told (goal.at.returns c).After-parity (short (goal.at.returns c).Start)) ∙ c.if-parity.false) q.new.b r.count (mask r.pivots) (mask r.used) N.0 N.1 N.2),
      N.2.row_old a.k c.requires.2,
    )
