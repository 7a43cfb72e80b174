-- `check_front`: each return is one law of rows 1 to 5.
use mathlib.Core.Path.{ap, ◌∙◌}
use Rattle.std.specs.Prelude.{Err}
use native.Mathlib.Omega.{arith}
use Rattle.record.proofs.Bytes.{number_2}
use Rattle.record.proofs.Refusals.{short_met, mark₀_met, mark₁_met, mark₂_met, version_met, states_met, no_letter_met, letters_met, front_pass}
use Rattle.record.proofs.check_front.Goals as goal

pub returns-then-len-lt-HEADER : goal.returns-then-len-lt-HEADER
returns-then-len-lt-HEADER c = ap Err c.at.ensures ∙ short_met _ (omega arith)

pub returns-then-bytes-ne78 : goal.returns-then-bytes-ne78
returns-then-bytes-ne78 c = ap Err c.at-then-bytes-ne78.ensures ∙ mark₀_met _ (omega arith) c.if-bytes-ne78.true

pub returns-then-bytes-ne88 : goal.returns-then-bytes-ne88
returns-then-bytes-ne88 c = ap Err c.at-then-bytes-ne88.ensures ∙ mark₁_met _ (omega arith) (omega arith) c.if-bytes-ne88.true

pub returns-then-bytes-ne65 : goal.returns-then-bytes-ne65
returns-then-bytes-ne65 c = ap Err c.at-then-bytes-ne65.ensures ∙ mark₂_met _ (omega arith) (omega arith) (omega arith) c.if-bytes-ne65.true

pub returns-then-from-ne-VERSION : goal.returns-then-from-ne-VERSION
returns-then-from-ne-VERSION c = ap Err c.at-then-from-ne-VERSION.ensures ∙ version_met _ (omega arith) (omega arith) (omega arith) (omega arith) (λ e. let f = rw number_2 at e in c.if-from-ne-VERSION.true (omega arith))

pub returns-then-from-gt-MAX_STATES : goal.returns-then-from-gt-MAX_STATES
returns-then-from-gt-MAX_STATES c = ap Err c.at-then-from-gt-MAX_STATES.ensures ∙ states_met _ (omega arith) (omega arith) (omega arith) (omega arith) (rw number_2 (omega arith)) (omega arith)

pub returns-then-a-eq0 : goal.returns-then-a-eq0
returns-then-a-eq0 c = ap Err c.at-then-a-eq0.ensures ∙ no_letter_met _ (omega arith) (omega arith) (omega arith) (omega arith) (rw number_2 (omega arith)) (omega arith) (omega arith)

pub returns-then-a-gt-MAX_LETTERS : goal.returns-then-a-gt-MAX_LETTERS
returns-then-a-gt-MAX_LETTERS c = ap Err c.at-then-a-gt-MAX_LETTERS.ensures ∙ letters_met _ (omega arith) (omega arith) (omega arith) (omega arith) (rw number_2 (omega arith)) (omega arith) (λ e. omega arith) (omega arith)

pub returns : goal.returns
returns c = front_pass _ (omega arith) (omega arith) (omega arith) (omega arith) (rw number_2 (omega arith)) (omega arith) (λ e. omega arith) (omega arith)
