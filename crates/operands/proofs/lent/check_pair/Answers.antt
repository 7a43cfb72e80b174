-- `check_pair`: each return is one case of the law.
use mathlib.Core.Path.{sym, ap, ◌∙◌}
use native.Mathlib.Omega.{arith}
use Rattle.std.specs.Prelude.{Err}
use Rattle.record.proofs.Refusals.{returned}
use Rattle.operands.proofs.PairLaws.{first_told, second_told, letters_met}
use Rattle.operands.proofs.lent.check_pair.Goals as goal

pub returns-in_err-left : goal.returns-in_err-left
returns-in_err-left c = rw (returned c.from_residual.result c.from_residual.ensures.1) (first_told _ _ c.in_err-left.ensures)

pub returns-in_err-right : goal.returns-in_err-right
returns-in_err-right c =
    let one = rw c.in_ok-left.ensures at c.in_ok-left.left.well_formed in
    let r = c.from_residual-in_err-right in
    rw (returned r.result r.ensures.1) (second_told _ _ one c.in_err-right.ensures)

pub returns-then-letters : goal.returns-then-letters
returns-then-letters c =
    let one = rw c.in_ok-left.ensures at c.in_ok-left.left.well_formed in
    let two = rw c.in_ok-right.ensures at c.in_ok-right.right.well_formed in
    let a = rw c.in_ok-left.ensures at c.letters.ensures.value in
    let b = rw c.in_ok-right.ensures at c.letters-2.ensures.value in
    ap Err c.of.ensures ∙ sym (letters_met _ _ one two (λ e. omega (arith, c.if-letters.true, a, b, e)))
