-- `finals`: a well-formed record has them.
use native.Mathlib.Omega.{arith}
use Rattle.record.proofs.Refusals.{good_check}
use Rattle.record.proofs.lent.Record.finals.Goals as goal

pub field_at-requires : goal.field_at-requires
field_at-requires c = let w = (good_check _ c.args.self.well_formed).whole in omega arith
