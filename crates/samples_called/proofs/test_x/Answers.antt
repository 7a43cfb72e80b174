-- `test_x`: sample 1, for every word.
use mathlib.Core.Path.{◌∙◌}
use Rattle.record.specs.Bytes.{bytes_of, all_bytes}
use Rattle.catalogue.specs.Words.{entry_words}
use Rattle.samples.specs.Table.{x12, samples}
use Rattle.samples.proofs.Samples.{samples_returned}
use Rattle.samples_called.proofs.test_x.Goals as goal

pub returns : goal.returns
unfolding samples x12 all_bytes bytes_of entry_words
returns c = record { answer = c.test.ensures.answer; words = λ o. c.test.ensures.answer ∙ samples_returned.0.0 _ o }
