-- `meet_of_stars`: sample 6, the meet.
use Rattle.record.specs.Bytes.{bytes_of, all_bytes}
use Rattle.catalogue.specs.Entries.{record_of}
use Rattle.samples.specs.Claims.{meet}
use Rattle.samples.specs.Table.{zero_star, one_star, samples}
use Rattle.samples.proofs.Samples.{samples_returned}
use Rattle.samples_called.proofs.Calls.{wrote_call}
use Rattle.samples_called.proofs.meet_of_stars.Goals as goal

pub returns : goal.returns
unfolding samples zero_star one_star all_bytes bytes_of
returns c =
    let m = c.meet in
    let buf = c.args.out.now in
    wrote_call (meet zero_star one_star) (record_of 2) 1 samples_returned.1.1.1.1.1.0.1.0 buf m.new.out m.result m.ensures.answer m.ensures.buffer
