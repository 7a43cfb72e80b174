-- `star`: the answer and the buffer by the check, row 14 and the result; the claims follow from both.
use mathlib.Core.Path.{sym, ap, ◌∙◌}
use native.Mathlib.Omega.{arith}
use lib.ListN.{length}
use Rattle.std.specs.Prelude.{Err}
use Rattle.record.specs.Record.{WellFormed}
use Rattle.record.specs.Held.{Holds}
use Rattle.record.proofs.Refusals.{good_check, returned}
use Rattle.star.proofs.BuiltLaws.{star_held}
use Rattle.star.proofs.StarLaws.{empty_held, star_refused, star_empty, star_refuses, star_gives}
use Rattle.star.proofs.star.Goals.{After-read-g}
use Rattle.star.proofs.star.Goals as goal

pub returns-in_err-lent : goal.returns-in_err-lent
returns-in_err-lent c =
    let a = c.args in
    let e = star_refused a.bytes.now (length a.out.now) c.in_err-lent.ensures in
    let p = star_refuses a.bytes.now a.out.now _ c.from_residual.result e (returned c.from_residual.result c.from_residual.ensures.1) in
    record { answer = p.0; buffer = p.1.0; claims = p.1.1 }

-- The table holds the record that was passed, which is well formed.
held : (c : After-read-g) → Holds c.args.bytes.now c.read-g.new.t c.read-g.result
held c = rw c.in_ok-lent.ensures at c.read-g.ensures

good : (c : After-read-g) → WellFormed c.args.bytes.now
good c = rw c.in_ok-lent.ensures at c.in_ok-lent.lent.well_formed

pub returns-then-parity : goal.returns-then-parity
returns-then-parity c =
    let g = c.read-g in
    let a = c.args in
    let at = (goal.at.returns-then-parity c).After-read-g in
    let empty = empty_held a.bytes.now g.new.t g.result (held at) ∙ sym (c.parity.ensures g.result.states g.ensures.valid.initial) ∙ c.if-parity.true in
    let p = star_refuses a.bytes.now a.out.now _ _ (star_empty a.bytes.now (length a.out.now) (good at) empty) (ap Err c.of.ensures) in
    record { answer = p.0; buffer = p.1.0; claims = p.1.1 }

pub repeat-m-requires : goal.repeat-m-requires
repeat-m-requires c =
    let g = c.read-g.ensures in
    let f = (good_check _ c.in_ok-lent.lent.well_formed).front in
    (g.valid, omega arith)

pub returns : goal.returns
returns c =
    let f = c.finish in
    let m = c.repeat-m in
    let g = c.read-g in
    let a = c.args in
    let at = (goal.at.returns c).After-read-g in
    let lacks = empty_held a.bytes.now g.new.t g.result (held at) ∙ sym (c.parity.ensures g.result.states g.ensures.valid.initial) ∙ c.if-parity.false in
    let p = star_gives a.bytes.now a.out.now m.new.t m.result f.new.out f.result (good at, lacks)
    (star_held a.bytes.now g.new.t m.new.t g.result m.result (held at) m.ensures) f.ensures.answer f.ensures.buffer in
    record { answer = p.0; buffer = p.1.0; claims = p.1.1 }
