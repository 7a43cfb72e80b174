-- `parity` counts the shared bits.
use Rattle.rows.specs.Row.{mask}
use Rattle.rows.proofs.ParityLaws.{test_parity}
use Rattle.rows.proofs.parity.Goals as goal

pub returns : goal.returns
unfolding mask
returns c = test_parity c.args.x.bits c.args.y.bits
