-- `mark_script`: the buffer has one byte more than a script may have, and the script that is marked is the one that was read.
use Rattle.std.proofs.Common.{refl}
use Rattle.marking_io.proofs.Calls.{marks_from}
use Rattle.marking_io.proofs.mark_script.Goals as goal

pub read_script-got-requires : goal.read_script-got-requires
read_script-got-requires g c = refl

pub returns : goal.returns
returns g c = marks_from _ _ _ _ _ _ c.read_script-got.ensures.script c.mark_read.ensures
