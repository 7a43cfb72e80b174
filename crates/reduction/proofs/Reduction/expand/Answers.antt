-- `expand`: one letter by itself; else the letters below l are done, and row k stays, so that the line keeps its products.
use mathlib.Core.Path.{◌≡◌, sym, ap, subst, ◌∙◌}
use Prim.Native.Nat.{◌+◌, ◌<◌}
use native.Mathlib.Omega.{arith}
use Rattle.rows.specs.Row.{width}
use Rattle.reduction.specs.Before.{Before}
use Rattle.reduction.proofs.TableSearch.{count_bound, found_low, searching_next}
use Rattle.reduction.proofs.Reduction.expand.Goals.{Start}
use Rattle.reduction.proofs.Reduction.expand.Goals as goal

-- There are at most as many rows as bits.
below : (s : Start) → s.args.k < width
below s = omega (arith, count_bound _ _ _ _ _ _ s.requires.0.search.basis, s.args.self.now.source.valid.states, s.requires.1)

pub get-row-requires : goal.get-row-requires
get-row-requires c = (omega arith, omega arith, below (goal.at.get-row-requires c).Start)

pub step-requires : goal.step-requires
step-requires c =
    let e = c.get-row.ensures in
    let n = c.args.self.now.source.machine.states in
    let low = found_low _ _ _ _ _ _ c.requires.0.search.basis _ c.requires.1 in
    (c.requires.0, c.requires.1, omega (arith, c.if-self-eq1.true), rw e at (c.times-z.ensures n (rw e low)))

pub returns-then-self-eq1 : goal.returns-then-self-eq1
returns-then-self-eq1 c =
    let r = c.step.new.self in
    let S = c.step.ensures in
    let one : 0 + 1 ≡ c.args.self.now.source.machine.letters = omega (arith, c.if-self-eq1.true) in
    let e : 0 + 1 ≡ r.source.machine.letters = one ∙ sym (ap (λ s. s.machine.letters) S.1.source) in
    (searching_next _ _ _ _ _ _ _ _ _ _ _ (subst (Before r c.args.k) e S.0), S.1)

pub multiply-y-requires : goal.multiply-y-requires
multiply-y-requires c = (c.args.self.now.source.valid.letters, below (goal.at.multiply-y-requires c).Start)

pub step-requires-in-loop-l : goal.step-requires-in-loop-l
step-requires-in-loop-l c =
    let v = c.loop-l in
    let F = v.invariant.1 in
    let h = c.loop-l-test.true in
    let low = found_low _ _ _ _ _ _ c.requires.0.search.basis _ c.requires.1 in
    (v.invariant.0, omega (arith, F.more, c.requires.1), rw F.source h, rw (F.source, v.invariant.2) (c.pick-z.ensures ∙ c.multiply-y.ensures _ low v.l h))

pub returns : goal.returns
returns c =
    let v = c.loop-l in
    let F = v.invariant.1 in
    let last : v.l ≡ c.args.self.now.source.machine.letters = omega arith in
    let e : v.l ≡ v.self.source.machine.letters = last ∙ sym (ap (λ s. s.machine.letters) F.source) in
    (searching_next _ _ _ _ _ _ _ _ _ _ _ (rw e at v.invariant.0), F)
