-- The closure of `times_each` reads a row of a letter that there is.
use Rattle.std.proofs.Common.{arith}
use Rattle.record.proofs.Refusals.{good_check}
use Rattle.products.proofs.fn.times_each.times_each.Goals as goal

pub overflow_add-l : goal.overflow_add-l
overflow_add-l c = let few = (good_check _ c.requires.0).front.letters in omega arith
