-- `length_of`: there are at most 256 rows, so the length fits.
use native.Mathlib.Omega.{arith}
use Rattle.record.proofs.Refusals.{area}
use Rattle.record.proofs.length_of.Goals as goal

pub overflow_mul-result : goal.overflow_mul-result
overflow_mul-result c = omega (arith, area c.args.a c.args.n c.requires.1 c.requires.0)

pub overflow_mul-result-2 : goal.overflow_mul-result-2
overflow_mul-result-2 c = omega (arith, area c.args.a c.args.n c.requires.1 c.requires.0)

pub overflow_add-result : goal.overflow_add-result
overflow_add-result c = omega (arith, area c.args.a c.args.n c.requires.1 c.requires.0)
