-- `minimal_form`: the table that was read holds the record's automaton.
use mathlib.Core.Path.{refl, subst, ◌∙◌}
use native.Mathlib.Omega.{arith}
use Rattle.automata.proofs.Dimension.{dimension_least}
use Rattle.automata.proofs.Minimal.{bits_language}
use Rattle.rows.specs.Row.{mask}
use Rattle.rows.specs.Machine.{automaton_in}
use Rattle.minimisation.specs.Minimises.{Minimises}
use Rattle.minimisation.proofs.MinimiseLaws.{minimises_same}
use Rattle.record.specs.Record.{letters_of, automaton_of}
use Rattle.record.proofs.Held.{bits_held}
use Rattle.minimal.proofs.minimal_form.Goals as goal

pub minimise-requires : goal.minimise-requires
minimise-requires c = (c.read-m.ensures.valid, refl, c.requires.1)

pub returns : goal.returns
returns c =
    let bs = c.args.bytes.now in
    let t = c.read-m.new.t in
    let m = c.read-m.result in
    let h = c.read-m.ensures in
    let s = c.minimise.new.c in
    let r = c.minimise.result in
    let e = c.minimise.ensures in
    let M = e.1.1 (omega (arith, e.1.0, dimension_least m.letters (automaton_in t m) (automaton_in t m) (λ w ow. refl))) in (
      e.0 ∙ h.letters,
      minimises_same (letters_of bs) (automaton_in t m) (automaton_of bs) s r.states (mask r.initial) (mask r.finals) (bits_language (letters_of bs) (automaton_in t m) (automaton_of bs) (bits_held bs t m h))
          (subst (λ a. Minimises a (automaton_in t m) s r.states (mask r.initial) (mask r.finals)) h.letters M),
    )
