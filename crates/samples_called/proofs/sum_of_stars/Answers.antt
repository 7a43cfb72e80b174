-- `sum_of_stars`: sample 6, the sum.
use Rattle.record.specs.Bytes.{bytes_of, all_bytes}
use Rattle.samples.specs.Claims.{sum}
use Rattle.samples.specs.Table.{zero_star, one_star, star_sum, samples}
use Rattle.samples.proofs.Samples.{samples_returned}
use Rattle.samples_called.proofs.Calls.{wrote_call}
use Rattle.samples_called.proofs.sum_of_stars.Goals as goal

pub returns : goal.returns
unfolding samples zero_star one_star all_bytes bytes_of
returns c =
    let m = c.sum in
    let buf = c.args.out.now in
    wrote_call (sum zero_star one_star) star_sum 2 samples_returned.1.1.1.1.1.0.0 buf m.new.out m.result m.ensures.answer m.ensures.buffer
