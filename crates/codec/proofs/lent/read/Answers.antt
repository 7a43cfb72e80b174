-- `read`: the table is filled letter by letter, and then holds the record.
use mathlib.Core.Path.{◌≡◌}
use native.Mathlib.Omega.{arith}
use Rattle.record.specs.Record.{letters_of}
use Rattle.record.proofs.Held.{holds}
use Rattle.codec.proofs.lent.read.Goals as goal

pub returns : goal.returns
returns c =
    let a = c.letters-letters.ensures.value in
    let all : c.loop-l.l ≡ letters_of c.args.lent.bytes.now = omega (arith, a, c.loop-l-test.false, c.loop-l.auto.l-end) in
    holds c.args.lent.bytes.now c.loop-l.t c.args.lent.well_formed (rw all at c.loop-l.invariant) c.states.ensures.value a c.initial-initial.ensures c.finals-finals.ensures
