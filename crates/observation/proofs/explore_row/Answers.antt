-- `explore_row`: one letter by itself; else the letters below l are done, and row k stays, so that the line keeps its products.
use mathlib.Core.Path.{◌≡◌, sym, subst, ◌∙◌}
use Prim.Native.Nat.{◌+◌, ◌^◌, ◌<◌}
use native.Mathlib.Nat.{not-suc-le-zero}
use native.Mathlib.Omega.{arith}
use Rattle.rows.specs.Row.{width, mask}
use Rattle.rows.specs.Table.{at}
use Rattle.rows.specs.Product.{product}
use Rattle.rows.proofs.ProductLaws.{product_lt}
use Rattle.basis.specs.Basis.{cell}
use Rattle.reduction.proofs.TableSearch.{found_low}
use Rattle.observation.specs.Explore.{Tried}
use Rattle.observation.proofs.ExploreLaws.{grown_on, row_step, found_bound}
use Rattle.observation.proofs.explore_row.Goals.{Start, After-times-z, After-pick-z}
use Rattle.observation.proofs.explore_row.Goals as goal

-- There are at most as many rows as bits.
below : (s : Start) → s.args.k < width
below s = omega (arith, found_bound _ _ _ _ _ s.args.x.valid _ _ _ _ s.requires.0, s.requires.1)

pub get-row-requires : goal.get-row-requires
get-row-requires c = (omega arith, omega arith, below (goal.at.get-row-requires c).Start)

-- The product is that of row k, by the only letter.
alone_is : (c : After-times-z) → mask c.times-z.result ≡ product c.args.x.machine.states (cell width c.args.b.now 1 c.args.k) (at c.args.x.table.now 0)
alone_is c =
    let e = c.get-row.ensures in
    let n = c.args.x.machine.states in
    let low = found_low _ _ _ _ _ _ c.requires.0.basis _ c.requires.1 in
    rw e at (c.times-z.ensures n (rw e low))

pub insert-requires : goal.insert-requires
insert-requires c =
    let G = c.requires.0 in
    let ok = c.args.x.valid in
    let low = subst (λ y. y < 2 ^ c.args.x.machine.states) (sym (alone_is (goal.at.insert-requires c).After-times-z)) (product_lt _ _ _ _ (λ i h. ok.rows 0 i (omega (arith, c.if-x-eq1.true)) h)) in
    (ok.states, ok.states, omega (arith, G.base), low, (G.coef, G.basis), G.cover)

pub returns-then-x-eq1 : goal.returns-then-x-eq1
returns-then-x-eq1 c =
    let q = c.insert in
    let one : 0 + 1 ≡ c.args.x.machine.letters = omega (arith, c.if-x-eq1.true) in
    let G = row_step _ _ _ _ _ _ _ _ _ c.requires.0 c.args.k 0 c.requires.1 (omega (arith, one)) _ (alone_is (goal.at.returns-then-x-eq1 c).After-times-z) _ _ _ _ q.ensures in
    record { found = G.0; grown = G.1; tried = subst (λ l. Tried l c.args.x.table.now c.args.x.machine.states q.new.b q.result.count c.args.k) one (G.2 (λ l h. absurd (not-suc-le-zero h))) }

pub multiply-y-requires : goal.multiply-y-requires
multiply-y-requires c = (c.args.x.valid.letters, below (goal.at.multiply-y-requires c).Start)

-- The product in the line is that of row k, which stays.
product_is : (c : After-pick-z) → mask c.pick-z.result ≡ product c.args.x.machine.states (cell width c.loop-l.b 1 c.args.k) (at c.args.x.table.now c.loop-l.l)
product_is c =
    let v = c.loop-l in
    let low = found_low _ _ _ _ _ _ c.requires.0.basis _ c.requires.1 in
    rw (v.invariant.1.kept c.args.k c.requires.1) (c.pick-z.ensures ∙ c.multiply-y.ensures _ low v.l c.loop-l-test.true)

pub insert-r-requires : goal.insert-r-requires
insert-r-requires c =
    let G = c.loop-l.invariant.0 in
    let ok = c.args.x.valid in
    let low = subst (λ y. y < 2 ^ c.args.x.machine.states) (sym (product_is (goal.at.insert-r-requires c).After-pick-z)) (product_lt _ _ _ _ (λ i h. ok.rows c.loop-l.l i c.loop-l-test.true h)) in
    (ok.states, ok.states, omega (arith, G.base), low, (G.coef, G.basis), G.cover)

pub loop-l-preserved : goal.loop-l-preserved
loop-l-preserved c =
    let v = c.loop-l in
    let G = row_step _ _ _ _ _ _ _ _ _ v.invariant.0 c.args.k v.l (omega (arith, v.invariant.1.more, c.requires.1)) c.loop-l-test.true _ (product_is (goal.at.loop-l-preserved c).After-pick-z) _ _ _ _ c.insert-r.ensures in
    (G.0, grown_on _ _ _ _ _ v.invariant.1 _ _ G.1, G.2 v.invariant.2)
