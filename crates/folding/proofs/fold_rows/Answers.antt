-- `fold_rows`: the rows of the pivots below k are folded, and z has the pivots ahead. The loop knows the pivots by the bits that it began with.
use mathlib.Core.Path.{◌≡◌, sym, ap, ◌∙◌}
use mathlib.Core.Bool.{true}
use Prim.Native.Nat.{ℕ, ◌+◌, ◌<◌}
use native.Mathlib.Omega.{arith}
use Rattle.automata.specs.Mask.{bit_of}
use Rattle.rows.specs.Row.{mask}
use Rattle.rows.proofs.LoopLaws.{some_bit, no_bit, cleared_less}
use Rattle.observation.specs.Listed.{rank}
use Rattle.observation.proofs.ListedLaws.{rank_start, rank_step_pivot, rank_le}
use Rattle.observation.proofs.Rising.{Ahead, ahead_start, ahead_end, ahead_next, next_from, next_below, next_pivot, between}
use Rattle.folding.specs.Folding.{FoldedTo}
use Rattle.folding.proofs.RowLaws.{folded_start, folded_over, folded_pivot}
use Rattle.folding.proofs.fold_rows.Goals.{After-and-z, After-lowest-k, In-loop-z}
use Rattle.folding.proofs.fold_rows.Goals as goal

pub loop-z-init : goal.loop-z-init
loop-z-init c = let a = c.args in λ p A. (0, omega arith, A, rank_start (bit_of p), folded_start a.l p a.tab.now.groups a.tab.now.entries a.t.now c.told-t)

-- All pivots are ahead at first.
ahead : (c : After-and-z) → Ahead (bit_of (mask c.args.p)) 0 c.args.n (mask c.and-z.result)
ahead c = let a = c.args in let y = c.below in ahead_start (mask a.p) a.n (mask y.result) (mask c.and-z.result) y.ensures.0 y.ensures.1 c.and-z.ensures

-- A bit is left.
some : (c : In-loop-z) → 0 < mask c.loop-z.z
some c = some_bit (mask c.loop-z.z) c.is_none.ensures c.loop-z-test.true

-- The rows folded are those of the pivots below the lowest bit, whatever the pivots are.
reached : (c : After-lowest-k) (p : ℕ) → Ahead (bit_of p) 0 c.args.n (mask c.and-z.result)
    → (c.lowest-k.result < c.args.n) × (bit_of p c.lowest-k.result ≡ true) × (c.loop-z.j ≡ rank (bit_of p) c.lowest-k.result) × FoldedTo c.args.l c.lowest-k.result p c.args.tab.now.groups c.args.tab.now.entries c.args.t.now c.loop-z.t
reached c p A =
    let a = c.args in
    let v = c.loop-z in
    let i = v.invariant p A in
    let q = c.lowest-k in
    let e = q.ensures.1 in
    let f = q.ensures.2 in
    let x = folded_over a.l i.0 q.result p a.tab.now.groups v.j a.tab.now.entries a.t.now v.t (next_from (bit_of p) i.0 a.n (mask v.z) i.2 q.result e f) (between (bit_of p) i.0 a.n (mask v.z) i.2 q.result e f) i.3 i.4 in (
      next_below (bit_of p) i.0 a.n (mask v.z) i.2 q.result e f,
      next_pivot (bit_of p) i.0 a.n (mask v.z) i.2 q.result e f,
      x.0,
      x.1,
    )

-- There are no more rows than states passed.
few : (c : After-lowest-k) → c.loop-z.j < c.args.n
few c =
    let a = c.args in
    let y = c.below in
    let p = mask a.p in
    let x = reached c p (ahead_start p a.n (mask y.result) (mask c.and-z.result) y.ensures.0 y.ensures.1 c.and-z.ensures) in
    omega (arith, rank_le (bit_of p) c.lowest-k.result, x.0, x.2)

pub store-requires : goal.store-requires
store-requires c = (c.requires.0, omega (arith, few (goal.at.store-requires c).After-lowest-k, c.requires.1))

pub overflow_add-j : goal.overflow_add-j
overflow_add-j c = omega (arith, few (goal.at.overflow_add-j c).After-lowest-k, c.requires.1)

pub loop-z-smaller : goal.loop-z-smaller
loop-z-smaller c = cleared_less (mask c.loop-z.z) (some (goal.at.loop-z-smaller c).In-loop-z) c.clear_lowest-z.ensures

pub loop-z-preserved : goal.loop-z-preserved
loop-z-preserved c = λ p A.
    let a = c.args in
    let v = c.loop-z in
    let i = v.invariant p A in
    let q = c.lowest-k in
    let x = reached (goal.at.loop-z-smaller c).After-lowest-k p A in (
      q.result + 1,
      omega (arith, x.0),
      ahead_next (bit_of p) i.0 a.n (mask v.z) i.2 q.result q.ensures.1 q.ensures.2 (mask c.clear_lowest-z.result) (some (goal.at.loop-z-smaller c).In-loop-z) c.clear_lowest-z.ensures,
      ap (λ r. r + 1) x.2 ∙ sym (rank_step_pivot (bit_of p) q.result x.1),
      folded_pivot a.l q.result p a.tab.now.groups a.tab.now.entries a.t.now v.t x.3 c.requires.0 q.ensures.0 x.1 v.j (mask c.load-x.result) (mask c.times-y.result) c.store.new.t x.2 c.load-x.ensures c.times-y.ensures c.store.ensures,
    )

pub returns : goal.returns
returns c =
    let a = c.args in
    let p = mask a.p in
    let v = c.loop-z in
    let i = v.invariant p (ahead (goal.at.returns c).After-and-z) in
    (folded_over a.l i.0 a.n p a.tab.now.groups v.j a.tab.now.entries a.t.now v.t i.1 (ahead_end (bit_of p) i.0 a.n (mask v.z) i.2 (no_bit (mask v.z) c.is_none.ensures c.loop-z-test.false)) i.3 i.4).1
