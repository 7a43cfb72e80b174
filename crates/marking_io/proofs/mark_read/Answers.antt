-- `mark_read`: the buffer has the bytes that it was made of.
use Rattle.std.proofs.Common.{◌≤◌, subst, arith}
use Rattle.marking_io.specs.Text.{text_room}
use Rattle.marking_io.proofs.Calls.{zeros}
use Rattle.marking_io.proofs.mark_read.Goals as goal

pub slice_bounds-mark_into-end : goal.slice_bounds-mark_into-end
slice_bounds-mark_into-end g c = zeros _

pub mark_into-requires : goal.mark_into-requires
mark_into-requires g c = (subst (λ m. text_room ≤ m) (zeros 699360) (omega arith), c.requires)
