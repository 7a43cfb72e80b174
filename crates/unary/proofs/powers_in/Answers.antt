-- `powers_in`: every word of fewer letters than both have states was tried.
use native.Mathlib.Omega.{arith}
use Rattle.rows.specs.Row.{mask}
use Rattle.unary.proofs.PowerLaws.{powers_end}
use Rattle.unary.proofs.powers_in.Goals as goal

pub returns-in-Continue : goal.returns-in-Continue
returns-in-Continue g c =
    let a = c.args in
    let t = c.in-Continue.field-0 in
    powers_end a.first.now a.second.now a.m c.requires.4.paired c.requires.3 c.try_powers.new.w _ (mask t.row) (omega arith) c.in-Continue.ensures.powers
