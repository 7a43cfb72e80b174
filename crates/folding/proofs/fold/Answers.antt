-- `fold`: nothing changes where every state is a pivot; else every row is looked up among the columns.
use mathlib.Core.Path.{◌≡◌, refl, ap, ◌∙◌}
use borrow.Author.Rules.{rules}
use Rattle.automata.specs.Mask.{bit_of}
use Rattle.rows.specs.Row.{width, mask}
use Rattle.basis.specs.Basis.{cell}
use Rattle.lookup.specs.Lookup.{chosen}
use Rattle.folding.proofs.AutomatonLaws.{automaton_full, automaton_folded}
use Rattle.folding.proofs.fold.Goals as goal

pub returns-then-eq : goal.returns-then-eq
returns-then-eq c =
    let a = c.args in
    let m = a.m in
    let y = c.below-all in
    let e : a.p ≡ y.result = search rules in
    (refl, automaton_full m.letters a.t.now m.states (mask m.initial) (mask m.finals) c.requires.0 (mask a.p) a.b.now c.requires.1 (λ k h. ap (λ v. bit_of (mask v) k) e ∙ y.ensures.1 k h), c.told-c)

pub returns : goal.returns
returns c =
    let a = c.args in
    let m = a.m in
    let k = c.columns-d in
    let w = k.new.c in
    let o = c.below-all in
    let f = c.fill in
    let tab = f.new.self in
    let M = chosen (mask o.result) (cell width w 0) in
    let T = f.ensures.1 in (
      refl,
      automaton_folded m.letters a.t.now m.states (mask m.initial) (mask m.finals) c.requires.0 (mask a.p) a.b.now c.requires.1 k.result k.ensures.0 w k.ensures.1
          (mask o.result) o.ensures.0 o.ensures.1 tab.groups tab.entries f.ensures.0 T c.fold_table.new.t c.fold_table.ensures
          (mask c.times-i.result) (mask c.and.result) (mask c.times-f.result) (c.times-i.ensures M T) c.and.ensures (c.times-f.ensures M T),
      k.ensures.2,
    )
