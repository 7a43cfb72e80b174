-- `minimal_of_x`: sample 2, and the length of the record.
use mathlib.Core.Path.{refl, ap, ◌∙◌}
use lib.ListN.{length}
use Rattle.record.specs.Bytes.{bytes_of, all_bytes}
use Rattle.record.specs.Outcome.{answer_of}
use Rattle.record.proofs.Outcome.{fit_done}
use Rattle.minimal.specs.Minimal.{minimised_as}
use Rattle.samples.specs.Table.{x12, x, samples}
use Rattle.samples.proofs.Samples.{samples_returned}
use Rattle.samples_called.proofs.Calls.{minimal_call}
use Rattle.samples_called.proofs.minimal_of_x.Goals as goal

pub returns : goal.returns
unfolding samples x12 x all_bytes bytes_of
returns c =
    let m = c.minimal in
    let buf = c.args.out.now in
    let s = minimal_call x12 x 2 samples_returned.1.0.0 buf m.new.out m.result m.ensures.answer m.ensures.buffer in
    record { bytes = s; length = λ h. s.0 ∙ ap (λ o. minimised_as 2 (answer_of o)) (fit_done (length buf) x refl h) }
