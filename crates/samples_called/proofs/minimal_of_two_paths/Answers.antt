-- `minimal_of_two_paths`: sample 5.
use Rattle.record.specs.Bytes.{bytes_of, all_bytes}
use Rattle.samples.specs.Table.{no_states, two_paths, samples}
use Rattle.samples.proofs.Samples.{samples_returned}
use Rattle.samples_called.proofs.Calls.{minimal_call}
use Rattle.samples_called.proofs.minimal_of_two_paths.Goals as goal

pub returns : goal.returns
unfolding samples two_paths all_bytes bytes_of
returns c = let m = c.minimal in minimal_call two_paths (no_states 1) 0 samples_returned.1.1.1.1.0.1.1.0 c.args.out.now m.new.out m.result m.ensures.answer m.ensures.buffer
