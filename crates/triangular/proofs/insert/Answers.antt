-- `insert`: x is what is left of y, and the basis is as it was. Taking off the row of its highest bit makes x less.
use mathlib.Core.Path.{◌≡◌, refl, sym, ◌∙◌}
use mathlib.Core.Bool.{true}
use Prim.Native.Nat.{◌<◌}
use native.Mathlib.Nat.{le_refl, le_trans, le_of_lt, lt_of_lt_of_le, lt_of_le_of_lt}
use borrow.Author.Tests.{eqb-true}
use lib.ListN.{length, get_or}
use Rattle.automata.specs.Mask.{bit_of}
use Rattle.rows.specs.Row.{mask}
use Rattle.triangular.proofs.TopBit.{top_below, top_xor}
use Rattle.triangular.proofs.StepLaws.{remainder_start, remainder_step, inserted_new, inserted_old}
use Rattle.triangular.proofs.insert.Goals.{After-highest-q, Else-not-has}
use Rattle.triangular.proofs.insert.Goals as goal

pub loop-x-init : goal.loop-x-init
loop-x-init c = let a = c.args in (refl, le_refl _, remainder_start (mask a.p) a.e.now (mask a.y))

-- The highest bit of x has its place.
place : (c : After-highest-q) → c.highest-q.result < length c.loop-x.e
place c =
    let v = c.loop-x in
    rw v.invariant.0 (top_below (length c.args.e.now) c.highest-q.result (mask v.x) (c.highest-q.ensures.1, c.highest-q.ensures.2) (lt_of_le_of_lt v.invariant.1 c.requires.1))

pub put-requires : goal.put-requires
put-requires c = place (goal.at.put-requires c).After-highest-q

pub returns-then-not-has : goal.returns-then-not-has
returns-then-not-has c =
    let v = c.loop-x in
    let q = c.highest-q.result in
    rw (c.or.ensures, c.unit.ensures, c.put.ensures, v.invariant.0)
    (inserted_new (mask c.args.p) c.args.e.now (mask v.x) q (rw v.invariant.0 at (place (goal.at.returns-then-not-has c).After-highest-q)) (mask c.args.y) c.requires.0 (c.highest-q.ensures.1, c.highest-q.ensures.2) (sym c.has.ensures ∙ c.if-not-has.true) v.invariant.2)

pivot : (c : Else-not-has) → bit_of (mask c.args.p) c.highest-q.result ≡ true
pivot c = sym c.has.ensures ∙ c.if-not-has.false

pub loop-x-smaller : goal.loop-x-smaller
loop-x-smaller c =
    let v = c.loop-x in
    let q = c.highest-q.result in
    let r = c.requires.0 q (pivot (goal.at.loop-x-smaller c).Else-not-has) in
    rw (c.xor-x.ensures, c.get.ensures, v.invariant.0)
    (lt_of_lt_of_le (top_xor q (mask v.x) (get_or c.args.e.now q 0) (c.highest-q.ensures.1, c.highest-q.ensures.2) (r.1, r.2)) c.highest-q.ensures.1)

pub loop-x-preserved : goal.loop-x-preserved
loop-x-preserved c =
    let v = c.loop-x in (
      v.invariant.0,
      le_trans (le_of_lt (loop-x-smaller c)) v.invariant.1,
      rw (c.xor-x.ensures, c.get.ensures, v.invariant.0) (remainder_step (mask c.args.p) c.args.e.now (mask c.args.y) (mask v.x) c.highest-q.result (pivot (goal.at.loop-x-smaller c).Else-not-has) v.invariant.2),
    )

pub returns : goal.returns
returns c =
    let v = c.loop-x in
    let z = eqb-true (mask v.x) 0 (sym c.is_none.ensures ∙ c.loop-x-test.false) in
    rw v.invariant.0 (inserted_old (mask c.args.p) c.args.e.now (mask c.args.y) (mask v.x) z c.requires.0 v.invariant.2)
