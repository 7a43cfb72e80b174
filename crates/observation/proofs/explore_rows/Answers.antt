-- `explore_rows`: the rows in `done` are tried, and there is one more of them each time.
use mathlib.Core.Logic.{inl, inr}
use Prim.Native.Nat.{◌≤◌}
use native.Mathlib.Nat.{lt_of_lt_of_le}
use native.Mathlib.Omega.{arith}
use lib.Pow.{pow_mono}
use Rattle.rows.specs.Row.{width, mask}
use Rattle.rows.proofs.LoopLaws.{some_bit, no_bit}
use Rattle.reduction.proofs.TableSearch.{count_bound}
use Rattle.observation.proofs.Order.{Left, left, none_left, tried_rises}
use Rattle.observation.proofs.ExploreLaws.{all_tried, found_bound}
use Rattle.observation.proofs.explore_rows.Goals.{After-xor-todo, At-loop-r}
use Rattle.observation.proofs.explore_rows.Goals as goal

-- There are at most as many rows as a row has bits.
few : (c : At-loop-r) → c.loop-r.r.count ≤ width
few c = found_bound _ _ _ _ _ c.args.x.valid _ _ _ _ c.loop-r.invariant.0

-- Which rows are left.
those : (c : After-xor-todo) → Left c.loop-r.r.count (mask c.loop-r.done) (mask c.xor-todo.result)
those c = left _ _ _ _ c.below.ensures.0 c.below.ensures.1 (λ k t. (c.loop-r.invariant.1 k t).0) c.xor-todo.ensures

pub returns-then-is_none : goal.returns-then-is_none
returns-then-is_none c =
    let v = c.loop-r in
    let none = no_bit (mask c.xor-todo.result) c.is_none.ensures c.if-is_none.true in
    record { found = v.invariant.0; enough = inl (λ k h. (v.invariant.1 k (none_left _ _ _ (those (goal.at.returns-then-is_none c).After-xor-todo) none k h)).1) }

pub next-k-requires : goal.next-k-requires
next-k-requires c =
    (some_bit (mask c.xor-todo.result) c.is_none.ensures c.if-is_none.false, (those (goal.at.next-k-requires c).After-xor-todo).left_low, few (goal.at.next-k-requires c).At-loop-r)

pub loop-r-smaller : goal.loop-r-smaller
loop-r-smaller c =
    let k = c.next-k in
    let T = those (goal.at.loop-r-smaller c).After-xor-todo in
    omega (arith, lt_of_lt_of_le T.tried_low (pow_mono (few (goal.at.loop-r-smaller c).At-loop-r)), tried_rises _ k.result _ _ c.unit.ensures c.or-done.ensures _ _ T k.ensures.0 k.ensures.1)

pub loop-r-preserved : goal.loop-r-preserved
loop-r-preserved c =
    let X = c.explore_row-r.ensures in
    (X.found, all_tried _ _ _ _ _ _ _ _ _ _ _ _ X c.next-k.ensures.0 _ _ _ c.loop-r.invariant.1 c.unit.ensures c.or-done.ensures)

-- As many are found as there are states.
pub returns : goal.returns
returns c =
    let G = c.loop-r.invariant.0 in
    record { found = G; enough = inr (omega (arith, count_bound _ _ _ _ _ _ G.basis)) }
