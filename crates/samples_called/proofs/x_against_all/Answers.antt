-- `x_against_all`: sample 3.
use mathlib.Core.Path.{ap, ◌∙◌}
use lib.ListN.{length}
use Rattle.record.specs.Bytes.{bytes_of, all_bytes}
use Rattle.record.specs.Record.{encode}
use Rattle.record.specs.Outcome.{buffer_of}
use Rattle.catalogue.specs.Entries.{entry_of, letters_at, record_of}
use Rattle.samples.specs.Table.{x12, samples}
use Rattle.samples.proofs.Samples.{samples_returned}
use Rattle.samples_called.proofs.x_against_all.Goals as goal

pub returns : goal.returns
unfolding samples x12 record_of entry_of letters_at encode all_bytes bytes_of
returns c =
    let m = c.compare in
    let buf = c.args.word.now in
    let s = samples_returned.1.1.0.1.0 in
    record { answer = λ h. m.ensures.answer ∙ s.1 (length buf) h; withheld = λ h. m.ensures.answer ∙ s.2 (length buf) h; buffer = m.ensures.buffer ∙ ap (λ o. buffer_of o buf) (s.0 (length buf)) }
