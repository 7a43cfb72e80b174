-- `lay`: the basis rows of the pivots below k are laid, and z has the pivots ahead. The loop knows the pivots by the bits that it began with.
use mathlib.Core.Path.{◌≡◌, refl}
use mathlib.Core.Bool.{true}
use Prim.Native.Nat.{ℕ, ◌+◌, ◌<◌}
use native.Mathlib.Omega.{arith}
use Rattle.automata.specs.Mask.{bit_of}
use Rattle.rows.specs.Row.{mask}
use Rattle.rows.proofs.LoopLaws.{some_bit, no_bit, cleared_less}
use Rattle.columns.specs.Laid.{Laid}
use Rattle.observation.proofs.Rising.{Ahead, ahead_start, ahead_end, ahead_next, next_from, next_below, next_pivot, between}
use Rattle.columns.proofs.LayLaws.{laid_start, laid_le, laid_over, laid_pivot}
use Rattle.columns.proofs.lay.Goals.{After-and-z, After-lowest-k, In-loop-z}
use Rattle.columns.proofs.lay.Goals as goal

pub loop-z-init : goal.loop-z-init
loop-z-init c = λ p A. (0, omega arith, A, laid_start p c.args.b.now c.args.c.now c.told-c)

-- All pivots are ahead at first.
ahead : (c : After-and-z) → Ahead (bit_of (mask c.args.p)) 0 c.args.n (mask c.and-z.result)
ahead c = let a = c.args in let y = c.below in ahead_start (mask a.p) a.n (mask y.result) (mask c.and-z.result) y.ensures.0 y.ensures.1 c.and-z.ensures

-- A bit is left.
some : (c : In-loop-z) → 0 < mask c.loop-z.z
some c = some_bit (mask c.loop-z.z) c.is_none.ensures c.loop-z-test.true

-- The rows laid are those of the pivots below the lowest bit, whatever the pivots are.
reached : (c : After-lowest-k) (p : ℕ) → Ahead (bit_of p) 0 c.args.n (mask c.and-z.result) → (c.lowest-k.result < c.args.n) × (bit_of p c.lowest-k.result ≡ true) × Laid c.lowest-k.result p c.args.b.now c.loop-z.r c.loop-z.c
reached c p A =
    let v = c.loop-z in
    let n = c.args.n in
    let i = v.invariant p A in
    let q = c.lowest-k in
    let e = q.ensures.1 in
    let f = q.ensures.2 in (
      next_below (bit_of p) i.0 n (mask v.z) i.2 q.result e f,
      next_pivot (bit_of p) i.0 n (mask v.z) i.2 q.result e f,
      laid_over i.0 q.result p v.r c.args.b.now v.c (next_from (bit_of p) i.0 n (mask v.z) i.2 q.result e f) (between (bit_of p) i.0 n (mask v.z) i.2 q.result e f) i.3,
    )

-- There are no more rows than states passed.
few : (c : After-lowest-k) → c.loop-z.r < c.args.n
few c =
    let p = mask c.args.p in
    let x = reached c p (let a = c.args in let y = c.below in ahead_start (mask a.p) a.n (mask y.result) (mask c.and-z.result) y.ensures.0 y.ensures.1 c.and-z.ensures) in
    omega (arith, laid_le c.lowest-k.result p c.loop-z.r c.args.b.now c.loop-z.c x.2, x.0)

pub store-requires : goal.store-requires
store-requires c = omega (arith, few (goal.at.store-requires c).After-lowest-k)

pub overflow_add-r : goal.overflow_add-r
overflow_add-r c = omega (arith, few (goal.at.overflow_add-r c).After-lowest-k)

pub loop-z-smaller : goal.loop-z-smaller
loop-z-smaller c = cleared_less (mask c.loop-z.z) (some (goal.at.loop-z-smaller c).In-loop-z) c.clear_lowest-z.ensures

pub loop-z-preserved : goal.loop-z-preserved
loop-z-preserved c = λ p A.
    let v = c.loop-z in
    let n = c.args.n in
    let i = v.invariant p A in
    let q = c.lowest-k in
    let x = reached (goal.at.loop-z-smaller c).After-lowest-k p A in (
      q.result + 1,
      omega (arith, x.0),
      ahead_next (bit_of p) i.0 n (mask v.z) i.2 q.result q.ensures.1 q.ensures.2 (mask c.clear_lowest-z.result) (some (goal.at.loop-z-smaller c).In-loop-z) c.clear_lowest-z.ensures,
      laid_pivot q.result p v.r (v.r + 1) (mask c.get-x.result) c.args.b.now v.c c.store.new.t q.ensures.0 x.1 c.get-x.ensures refl c.store.ensures x.2,
    )

pub returns : goal.returns
returns c =
    let p = mask c.args.p in
    let v = c.loop-z in
    let n = c.args.n in
    let i = v.invariant p (ahead (goal.at.returns c).After-and-z) in
    laid_over i.0 n p v.r c.args.b.now v.c i.1 (ahead_end (bit_of p) i.0 n (mask v.z) i.2 (no_bit (mask v.z) c.is_none.ensures c.loop-z-test.false)) i.3
