-- `star_of_nonempty`: the case of the star.
use Rattle.record.specs.Bytes.{bytes_of, all_bytes}
use Rattle.samples.specs.Claims.{repetition}
use Rattle.samples.specs.Table.{nonempty, empty_or_zero, samples}
use Rattle.samples.proofs.Samples.{samples_returned}
use Rattle.samples_called.proofs.Calls.{wrote_call}
use Rattle.samples_called.proofs.star_of_nonempty.Goals as goal

pub returns : goal.returns
unfolding samples nonempty all_bytes bytes_of
returns c = let m = c.star in wrote_call (repetition nonempty) empty_or_zero 2 samples_returned.1.1.1.1.1.1.1.1.0.1.1.0 c.args.out.now m.new.out m.result m.ensures.answer m.ensures.buffer
