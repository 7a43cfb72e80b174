-- `insert`: where nothing is left y is an xor of rows found; else it is one more of them.
use mathlib.Core.Path.{refl, sym, ◌∙◌}
use mathlib.Core.Logic.{inl, inr}
use native.Mathlib.Nat.{lt_of_lt_of_le}
use borrow.Author.Tests.{eqb-true}
use lib.Pow.{pow_mono}
use Rattle.automata.specs.Mask.{bit_of}
use Rattle.rows.specs.Row.{mask}
use Rattle.elimination.specs.Echelon.{onto}
use Rattle.elimination.proofs.PlaceLaws.{place_old}
use Rattle.elimination.proofs.insert.Goals as goal

pub left_of-left-requires : goal.left_of-left-requires
left_of-left-requires c = (c.requires.2, lt_of_lt_of_le c.requires.3 (pow_mono c.requires.1))

pub returns-then-is_none : goal.returns-then-is_none
returns-then-is_none c =
    let a = c.args in
    let n = a.n in
    let p = mask a.s.pivots in
    let y = mask a.y in
    let x = c.left_of-left in
    λ C F. (C, onto n (bit_of p) C (bit_of y), inl (place_old a.stride n a.s.count p (mask a.s.used) y a.b.now C F c.requires.3 (mask x.result) x.ensures (onto n (bit_of p) C (bit_of y)) (λ i. refl) (eqb-true (mask x.result) 0 (sym c.is_none.ensures ∙ c.if-is_none.true))))

pub returns : goal.returns
returns c = λ C F. let e = c.extend.ensures C F in (e.0, e.1, inr e.2)
