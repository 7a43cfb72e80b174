-- `mark`: the line at the place of the record; what it tells, and which refusals, follows from the answer and the buffer.
use mathlib.Core.Path.{ap, subst, ◌∙◌}
use Prim.Native.Nat.{◌≤◌}
use lib.ListN.{length}
use Rattle.record.specs.Outcome.{answer_of, buffer_of, fit}
use Rattle.lines.specs.Lines.{longest}
use Rattle.marking.specs.Marking.{line_at, mark_line, mark_outcome}
use Rattle.marking.proofs.ToldLaws.{marks}
use Rattle.marking.proofs.mark.Goals as goal

pub returns : goal.returns
unfolding mark_outcome mark_line
returns c =
    let a = c.args in
    let s = a.script.now in
    let e = ap (λ p. fit (length a.out.now) (line_at s a.index p)) c.place-at.ensures in
    let answer = c.line_at.ensures.answer ∙ ap answer_of e in
    let buffer = c.line_at.ensures.buffer ∙ ap (λ o. buffer_of o a.out.now) e in
    let told = marks s a.index a.out.now c.line_at.new.out c.line_at.result answer buffer in
    record {
      answer = answer;
      buffer = buffer;
      room = subst (λ p. length (line_at s a.index p) ≤ longest) c.place-at.ensures c.line_at.ensures.room;
      claims = told.0;
      refusals = told.1;
    }
