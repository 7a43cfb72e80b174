-- `nxa_check`: the reply of what the check finds, its numbers, and that no refusal has number 0.
use mathlib.Core.Path.{ap, ◌∙◌}
use Rattle.replies.specs.Reply.{of_checked}
use Rattle.nxa.proofs.Granted.{check_number, check_granted, check_grants}
use Rattle.nxa.proofs.nxa_check.Goals as goal

pub returns : goal.returns
returns c =
    let bs = c.args.«record».now in
    let told = c.from.ensures ∙ ap of_checked c.check.ensures in
    record {
      reply = told;
      numbers = check_number bs c.from.result told;
      granted = (check_granted bs c.from.result told, check_grants bs c.from.result told);
    }
