-- `table_pays`: the record has a byte of states, and as many as a row has bits.
use native.Mathlib.Omega.{arith}
use Rattle.record.proofs.Refusals.{good_check}
use Rattle.unary.proofs.table_pays.Goals as goal

pub bounds-first-5 : goal.bounds-first-5
bounds-first-5 c = let f = (good_check _ c.requires.0).front in omega arith

pub are_single-requires : goal.are_single-requires
are_single-requires c = (omega (arith, c.size.ensures.0, (good_check _ c.requires.0).front.states), c.requires.1)
