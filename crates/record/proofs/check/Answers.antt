-- `check`: each part refuses for the whole, or passes and the next decides.
use mathlib.Core.Path.{sym, ap, ◌∙◌}
use Prim.Native.Nat.{◌*◌, ◌≤◌}
use native.Mathlib.Omega.{arith}
use Rattle.std.specs.Prelude.{Err}
use Rattle.std.proofs.lemmas.Result.{err_from_is_err_and}
use Rattle.record.specs.Rules.{fault}
use Rattle.record.specs.declared.Rule.TheVariants.{WrongLength}
use Rattle.record.proofs.Refusals.{good_front, front_met, length_met, fields_met, area}
use Rattle.record.proofs.check.Goals.{After-from-a}
use Rattle.record.proofs.check.Goals as goal

few : (c : After-from-a) → c.from-a.result * c.from-n.result ≤ 256
few c =
    let f = good_front _ (sym c.in_ok-check_front.ensures) in
    area c.from-a.result c.from-n.result (omega arith) (omega arith)

pub returns-in_err-check_front : goal.returns-in_err-check_front
returns-in_err-check_front c =
    let p = err_from_is_err_and c.from_residual.result c.from_residual.ensures.1 in
    let e = c.in_err-check_front.ensures in
    rw (p.1, p.2) (e ∙ front_met _ (sym e))

pub returns-then-bytes-whole : goal.returns-then-bytes-whole
returns-then-bytes-whole c =
    ap Err (c.at.ensures ∙ ap (λ p. fault WrongLength p) c.need-whole.ensures)
    ∙ length_met _ (sym c.in_ok-check_front.ensures) (λ e. c.if-bytes-whole.true (e ∙ sym c.need-whole.ensures))

pub check_fields-requires : goal.check_fields-requires
check_fields-requires c =
    let f = good_front _ (sym c.in_ok-check_front.ensures) in
    let l = c.if-bytes-whole.false ∙ c.need-whole.ensures in
    rw (c.from-a.ensures, c.from-n.ensures) (f.states, omega arith)

pub returns : goal.returns
returns c =
    c.check_fields.ensures
    ∙ rw (c.from-a.ensures, c.from-n.ensures)
    (fields_met _ (sym c.in_ok-check_front.ensures) (c.if-bytes-whole.false ∙ c.need-whole.ensures))
