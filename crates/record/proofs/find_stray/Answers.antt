-- `find_stray`: what is left of row 7, from the field at hand, decides the whole.
use native.Mathlib.Nat.{sub-zero}
use mathlib.Core.Path.{sym, ap, ◌∙◌}
use Rattle.std.specs.Prelude.{Err}
use native.Mathlib.Omega.{arith}
use borrow.Author.Tests.{ltb-true, ltb-false}
use Rattle.record.proofs.Refusals.{passed_next, stray_met, stray_pass, stray_done}
use Rattle.record.proofs.find_stray.Goals as goal

-- The check finds this and the measure alone; they are written so that an edit is refused at what fails.
pub loop-place-init : goal.loop-place-init
loop-place-init c = (omega arith, omega arith, rw sub-zero)

pub returns-then-not-within : goal.returns-then-not-within
returns-then-not-within c =
    ap Err c.at.ensures
    ∙ sym
    (c.loop-place.invariant.2
    ∙ stray_met _ _ _ _ (omega arith)
    (rw (← c.field_at.ensures) (ltb-false _ _ (sym c.within.ensures ∙ c.if-not-within.true))))

pub loop-place-smaller : goal.loop-place-smaller
loop-place-smaller c = omega arith

pub loop-place-preserved : goal.loop-place-preserved
loop-place-preserved c =
    let v = c.loop-place in (
      omega arith,
      omega arith,
      rw (passed_next v.place (omega arith))
          (v.invariant.2
          ∙ stray_pass _ _ _ _ (omega arith)
          (rw (← c.field_at.ensures) (ltb-true _ _ (sym c.within.ensures ∙ c.if-not-within.false)))),
    )

pub returns : goal.returns
returns c = sym (c.loop-place.invariant.2 ∙ stray_done _ _ _ _ (omega arith))
