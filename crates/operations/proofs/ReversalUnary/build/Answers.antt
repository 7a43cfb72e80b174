-- The mirror: the transposed table, initial and final states exchanged.
use mathlib.Core.Path.{refl}
use Rattle.operations.proofs.BuiltLaws.{mirror_built}
use Rattle.operations.proofs.ReversalUnary.build.Goals as goal

pub returns : goal.returns
returns c = mirror_built c.args.t.now c.transpose.new.t c.args.g _ c.requires.0 c.transpose.ensures refl refl refl refl
