-- `minimal_of_nothing`: sample 4, n = 0.
use Rattle.record.specs.Bytes.{bytes_of, all_bytes}
use Rattle.samples.specs.Table.{no_states, samples}
use Rattle.samples.proofs.Samples.{samples_returned}
use Rattle.samples_called.proofs.Calls.{minimal_call}
use Rattle.samples_called.proofs.minimal_of_nothing.Goals as goal

pub returns : goal.returns
unfolding samples no_states all_bytes bytes_of
returns c = let m = c.minimal in minimal_call (no_states 2) (no_states 2) 0 samples_returned.1.1.1.0.1.1.0 c.args.out.now m.new.out m.result m.ensures.answer m.ensures.buffer
