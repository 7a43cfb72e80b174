-- `load`: with every letter loaded the table holds the entry's record.
use mathlib.Core.Path.{◌≡◌, ◌∙◌}
use native.Mathlib.Omega.{arith}
use Rattle.record.specs.Record.{letters_of}
use Rattle.record.proofs.Held.{holds}
use Rattle.catalogue.specs.Entries.{record_of}
use Rattle.catalogue.proofs.Records.{record_claims}
use Rattle.catalogue.proofs.load.Goals as goal

pub returns : goal.returns
returns c =
    let j = c.args.j in
    let e = c.of-e.ensures in
    let all : c.loop-l.l ≡ letters_of (record_of j) = omega arith in
    holds (record_of j) c.loop-l.t (record_claims j c.requires.0).form.formed (rw all at c.loop-l.invariant) e.states e.letters (c.from_u64.ensures ∙ e.initial)
    (c.from_u64-2.ensures ∙ e.finals)
