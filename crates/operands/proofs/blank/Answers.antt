-- `blank`: its bytes are those of the record of no states.
use mathlib.Core.Path.{ap, ◌∙◌}
use Rattle.operands.specs.Meant.{blank_of}
use Rattle.operands.proofs.MeantLaws.{blank_bytes}
use Rattle.operands.proofs.blank.Goals as goal

pub returns : goal.returns
returns c = blank_bytes c.letters-a.result ∙ ap blank_of c.letters-a.ensures
