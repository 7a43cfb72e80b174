-- `follow`: the row at hand is the one reached along the letters passed.
use mathlib.Core.Path.{◌≡◌, sym, ap, ◌∙◌}
use mathlib.Core.List.{[], ◌∷◌, ◌++◌}
use Prim.Native.Nat.{◌+◌}
use native.Mathlib.Numerals.{add-one}
use borrow.Author.Tests.{eqb-true}
use lib.ListN.{take, drop, take-append-drop}
use lib.Seq.{take-suc}
use Rattle.rows.specs.Row.{mask}
use Rattle.testing.proofs.Testing.{reached_letter, reached_none}
use Rattle.testing.proofs.follow.Goals as goal

pub returns-then-is_none : goal.returns-then-is_none
returns-then-is_none c =
    let w = c.args.word.now in
    let i = c.loop-letter.letter-index in
    let none : mask c.loop-letter.x ≡ 0 = eqb-true _ _ (sym c.is_none.ensures ∙ c.if-is_none.true) in
    rw take-append-drop at (reached_none c.args.t.now c.args.m c.requires (take i w) (drop i w) c.loop-letter.x c.loop-letter.invariant none)

pub loop-letter-preserved : goal.loop-letter-preserved
loop-letter-preserved c =
    let a = c.args in
    let w = a.word.now in
    let i = c.loop-letter.letter-index in
    let l = c.from-l.result in
    let one : take (i + 1) w ≡ take i w ++ (l ∷ []) =
    ap (λ k. take k w) (add-one i) ∙ take-suc w i 0 c.loop-letter-test.true ∙ ap (λ x. take i w ++ (x ∷ [])) (sym c.from-l.ensures) in
    let r = c.loop-letter.invariant in
    rw one (reached_letter a.t.now a.m c.requires (take i w) l c.loop-letter.x c.step-x.result r (c.step-x.ensures a.m.states r.below))
