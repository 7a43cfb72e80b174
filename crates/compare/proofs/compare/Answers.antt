-- `compare`: a refusal of the checks, or the answer of `settle`, of both records as they are meant; the claims follow from the answer and
-- the buffer.
use mathlib.Core.Path.{sym, ap, ◌∙◌}
use lib.ListN.{length}
use Rattle.record.specs.Record.{letters_of, automaton_of}
use Rattle.record.specs.Outcome.{buffer_of}
use Rattle.record.proofs.Refusals.{returned}
use Rattle.operands.specs.Meant.{meant_over}
use Rattle.compare.specs.Compare.{difference_of, compared_as}
use Rattle.compare.proofs.CompareLaws.{outcome_refused}
use Rattle.compare.proofs.Claims.{claims}
use Rattle.compare.proofs.compare.Goals as goal

pub returns-in_err-check_pair : goal.returns-in_err-check_pair
returns-in_err-check_pair c =
    let bs = c.args.first.now in
    let cs = meant_over (letters_of bs) c.args.second.now in
    let buf = c.args.word.now in
    let o = sym (outcome_refused bs cs (length buf) _ (sym (rw c.meant-right.ensures at c.in_err-check_pair.ensures))) in
    let answer = returned c.from_residual.result c.from_residual.ensures.1 ∙ ap (compared_as (difference_of bs cs) (automaton_of bs)) o in
    let buffer = ap (λ x. buffer_of x buf) o in
    record { answer = answer; buffer = buffer; claims = claims bs cs buf buf _ answer buffer }

pub returns-clause-claims : goal.returns-clause-claims
returns-clause-claims c =
    let bs = c.args.first.now in
    let s = rw c.meant-right.ensures at c.settle.ensures in
    claims bs (meant_over (letters_of bs) c.args.second.now) c.args.word.now c.settle.new.word c.settle.result s.answer s.buffer
