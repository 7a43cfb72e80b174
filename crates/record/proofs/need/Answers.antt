-- `need`: past rows 1 to 5 the sizes are within bounds.
use mathlib.Core.Path.{◌∙◌}
use native.Mathlib.Omega.{arith}
use Rattle.record.proofs.Refusals.{good_front}
use Rattle.record.proofs.need.Goals as goal

pub bounds-bytes-5 : goal.bounds-bytes-5
bounds-bytes-5 c = let w = good_front _ c.requires in omega arith

pub bounds-bytes-6 : goal.bounds-bytes-6
bounds-bytes-6 c = let w = good_front _ c.requires in omega arith

pub length_of-requires : goal.length_of-requires
length_of-requires c = let w = good_front _ c.requires in omega arith

pub returns : goal.returns
returns c = c.length_of.ensures ∙ rw (c.from-2.ensures, c.from.ensures)
