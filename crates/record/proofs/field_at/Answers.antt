-- `field_at`: the four bytes are the number's digits.
use mathlib.Core.Path.{◌∙◌}
use native.Mathlib.Omega.{arith}
use Rattle.record.proofs.Bytes.{number_4}
use Rattle.record.proofs.field_at.Goals as goal

pub returns : goal.returns
returns c = c.from-2.ensures ∙ c.from.ensures ∙ c.from_le_bytes-x.ensures ∙ rw number_4 (omega arith)
