-- `minimal`: the answer and the buffer by the checks and by what was written; the claims follow from both.
use mathlib.Core.Path.{sym, ap, subst, ◌∙◌}
use native.Mathlib.Omega.{arith}
use lib.ListN.{length}
use Rattle.automata.specs.MinimalOf.{dimension_of}
use Rattle.rows.specs.Row.{mask}
use Rattle.rows.specs.Machine.{Bounded}
use Rattle.record.specs.Record.{letters_of, automaton_of}
use Rattle.record.specs.Outcome.{answer_of, buffer_of}
use Rattle.record.proofs.Claims.{dimension_fits}
use Rattle.record.proofs.Refusals.{told_good, returned}
use Rattle.minimal.specs.Minimal.{minimised_as}
use Rattle.minimal.proofs.MinimalLaws.{minimal_claims, minimal_refused, minimal_given}
use Rattle.minimal.proofs.minimal.Goals as goal

pub returns-in_err-check_as : goal.returns-in_err-check_as
returns-in_err-check_as c =
    let a = c.args in
    let bs = a.bytes.now in
    let o = sym (minimal_refused bs (length a.out.now) c.in_err-check_as.ensures) in
    let answer = returned c.from_residual.result c.from_residual.ensures.1 ∙ ap (λ x. minimised_as (dimension_of (letters_of bs) (automaton_of bs)) (answer_of x)) o in
    let buffer = ap (λ x. buffer_of x a.out.now) o in
    record { answer = answer; buffer = buffer; claims = minimal_claims bs a.out.now a.out.now c.from_residual.result answer buffer }

-- The minimal automaton is within bounds, and has no more states than the record.
pub write-requires : goal.write-requires
write-requires c =
    let bs = c.args.bytes.now in
    let f = c.minimal_form-m in
    let M = f.ensures.1 in (
      subst (λ a. Bounded a f.new.out f.result.states (mask f.result.initial) (mask f.result.finals)) (sym f.ensures.0) M.bounded,
      omega (arith, M.dimension, dimension_fits (letters_of bs) bs (told_good _ 1 c.in_ok-check_as.ensures)),
    )

pub returns-in_err-length : goal.returns-in_err-length
returns-in_err-length c =
    let bs = c.args.bytes.now in
    let buf = c.args.out.now in
    let f = c.minimal_form-m in
    let w = c.in_err-length.ensures in
    let p = minimal_given bs buf c.write.new.buf f.new.out f.result _ (told_good _ 1 c.in_ok-check_as.ensures) f.ensures.0 f.ensures.1 w.answer w.buffer in
    let answer = returned c.from_residual-in_err-length.result c.from_residual-in_err-length.ensures.1 ∙ p.0 in
    record { answer = answer; buffer = p.1; claims = minimal_claims bs buf c.write.new.buf _ answer p.1 }

pub returns : goal.returns
returns c =
    let bs = c.args.bytes.now in
    let buf = c.args.out.now in
    let f = c.minimal_form-m in
    let w = c.in_ok-length.ensures in
    let p = minimal_given bs buf c.write.new.buf f.new.out f.result _ (told_good _ 1 c.in_ok-check_as.ensures) f.ensures.0 f.ensures.1 w.answer w.buffer in
    record { answer = p.0; buffer = p.1; claims = minimal_claims bs buf c.write.new.buf _ p.0 p.1 }
