-- `letters`: past the end of a record 0 is read.
use mathlib.Core.Path.{sym}
use native.Mathlib.Omega.{arith}
use lib.ListN.{get_or-eq_default}
use Rattle.operands.proofs.letters.Goals as goal

pub returns-then-bytes-le6 : goal.returns-then-bytes-le6
returns-then-bytes-le6 c = sym (get_or-eq_default c.args.bytes.now 0 (omega arith))
