-- `minimal_of_cycle`: sample 7.
use Rattle.record.specs.Bytes.{bytes_of, all_bytes}
use Rattle.catalogue.specs.Entries.{record_of}
use Rattle.samples.specs.Table.{cycle, samples}
use Rattle.samples.proofs.Samples.{samples_returned}
use Rattle.samples_called.proofs.Calls.{minimal_call}
use Rattle.samples_called.proofs.minimal_of_cycle.Goals as goal

pub returns : goal.returns
unfolding samples cycle all_bytes bytes_of
returns c = let m = c.minimal in minimal_call cycle (record_of 5) 3 samples_returned.1.1.1.1.1.1.0.0 c.args.out.now m.new.out m.result m.ensures.answer m.ensures.buffer
