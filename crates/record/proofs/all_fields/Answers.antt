-- `all_fields`: no field passed is more than what was gathered.
use mathlib.Core.Path.{sym, ap, subst, ◌∙◌}
use Prim.Native.Nat.{◌+◌, ◌*◌, ◌≤◌}
use native.Mathlib.Nat.{not-suc-le-zero, le_trans}
use native.Mathlib.Numerals.{add-one}
use native.Mathlib.Omega.{arith}
use Rattle.automata.proofs.Below.{up_to}
use Rattle.rows.specs.Row.{mask}
use Rattle.rows.proofs.BitLaws.{or_ge_l, or_ge_r}
use Rattle.record.specs.Bytes.{number}
use Rattle.record.specs.Record.{row_bytes, initial_at}
use Rattle.record.proofs.Refusals.{passed, passed_next}
use Rattle.record.proofs.all_fields.Goals as goal

-- The check finds this and the last answer alone; they are written so that an edit is refused at what fails.
pub loop-p-init : goal.loop-p-init
loop-p-init c = (omega arith, omega arith, λ j h. absurd (not-suc-le-zero h))

-- The field at hand is gathered too.
pub loop-p-preserved : goal.loop-p-preserved
loop-p-preserved c =
    let v = c.loop-p in
    let bs = c.args.bytes.now in
    let x = mask v.y in
    let f = c.field_at in
    let y = mask f.result in
    let e = c.or-y.ensures in (
      omega arith,
      omega arith,
      rw (passed_next v.p (omega arith), add-one) (up_to {Q = λ j. number row_bytes bs (initial_at + row_bytes * j) ≤ mask c.or-y.result} (passed v.p)
          (λ j h. le_trans (v.invariant.2 j h) (subst (λ z. x ≤ z) (sym e) (or_ge_l x y)))
          (subst (λ z. z ≤ mask c.or-y.result) (f.ensures ∙ ap (number row_bytes bs) v.invariant.0) (subst (λ z. y ≤ z) (sym e) (or_ge_r x y)))),
    )

pub returns : goal.returns
returns c = λ j h. c.loop-p.invariant.2 j (omega arith)
