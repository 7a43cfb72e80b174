-- `complement_of_nothing`: sample 4, the complement.
use Rattle.record.specs.Bytes.{bytes_of, all_bytes}
use Rattle.samples.specs.Claims.{inverse}
use Rattle.samples.specs.Table.{no_states, one_state, samples}
use Rattle.samples.proofs.Samples.{samples_returned}
use Rattle.samples_called.proofs.Calls.{wrote_call}
use Rattle.samples_called.proofs.complement_of_nothing.Goals as goal

pub returns : goal.returns
unfolding samples no_states all_bytes bytes_of
returns c =
    let m = c.complement in
    let buf = c.args.out.now in
    wrote_call (inverse (no_states 2)) (one_state 2) 1 samples_returned.1.1.1.0.1.1.1.0 buf m.new.out m.result m.ensures.answer m.ensures.buffer
