-- `mirror_of_ending`: sample 8.
use Rattle.record.specs.Bytes.{bytes_of, all_bytes}
use Rattle.record.specs.Record.{encode}
use Rattle.catalogue.specs.Entries.{entry_of, letters_at, record_of}
use Rattle.samples.specs.Claims.{mirror}
use Rattle.samples.specs.Table.{first_one, samples}
use Rattle.samples.proofs.Samples.{samples_returned}
use Rattle.samples_called.proofs.Calls.{wrote_call}
use Rattle.samples_called.proofs.mirror_of_ending.Goals as goal

pub returns : goal.returns
unfolding samples record_of entry_of letters_at encode all_bytes bytes_of
returns c = let m = c.mirror in wrote_call (mirror (record_of 3)) first_one 2 samples_returned.1.1.1.1.1.1.1.0.0 c.args.out.now m.new.out m.result m.ensures.answer m.ensures.buffer
