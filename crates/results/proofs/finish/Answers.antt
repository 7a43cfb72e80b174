-- `finish`: the minimal automaton has as many states as the dimension.
use mathlib.Core.Path.{sym, ap, subst, ◌∙◌}
use native.Mathlib.Omega.{arith}
use lib.ListN.{length}
use Rattle.std.specs.Prelude.{Err}
use Rattle.rows.specs.Row.{mask}
use Rattle.rows.specs.Machine.{automaton_in, Bounded}
use Rattle.record.specs.Outcome.{answer_of, buffer_of}
use Rattle.results.proofs.ResultLaws.{result_over, result_within}
use Rattle.results.proofs.finish.Goals as goal

pub returns-then-d-gt-MAX_STATES : goal.returns-then-d-gt-MAX_STATES
returns-then-d-gt-MAX_STATES c =
    let a = c.args in
    let f = c.minimise-g in
    let o = result_over a.m.letters (automaton_in a.t.now a.m) (length a.out.now) f.result f.ensures.1.0 (omega arith) in
    record { answer = ap Err c.of.ensures ∙ ap answer_of (sym o); buffer = ap (λ x. buffer_of x a.out.now) (sym o) }

pub write-requires : goal.write-requires
write-requires c =
    let f = c.minimise-g in
    (subst (λ a. Bounded a f.new.c f.result.states (mask f.result.initial) (mask f.result.finals)) (sym f.ensures.0) (f.ensures.1.1 (omega arith)).bounded, omega arith)

pub returns : goal.returns
returns c =
    let a = c.args in
    let f = c.minimise-g in
    let w = c.write.ensures in
    let o = result_within a.m.letters (automaton_in a.t.now a.m) (length a.out.now) f.result f.ensures.1.0 f.new.c (f.ensures.1.1 (omega arith)) f.ensures.0 (omega arith) in
    record { answer = w.answer ∙ ap answer_of (sym o); buffer = w.buffer ∙ ap (λ x. buffer_of x a.out.now) (sym o) }
