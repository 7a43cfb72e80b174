-- `test_two_paths`: sample 5, for every word.
use mathlib.Core.Path.{◌∙◌}
use Rattle.record.specs.Bytes.{bytes_of, all_bytes}
use Rattle.samples.specs.Table.{two_paths, samples}
use Rattle.samples.proofs.Samples.{samples_returned}
use Rattle.samples_called.proofs.test_two_paths.Goals as goal

pub returns : goal.returns
unfolding samples two_paths all_bytes bytes_of
returns c = record { answer = c.test.ensures.answer; words = λ o. c.test.ensures.answer ∙ samples_returned.1.1.1.1.0.0 _ o }
