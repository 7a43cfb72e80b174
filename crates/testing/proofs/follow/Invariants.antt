-- `follow`: the row at hand is the one reached along the letters passed.
use lib.ListN.{take}
use Rattle.testing.specs.Testing.{Reached}
use Rattle.testing.proofs.follow.Given as goal

abbrev pub invariant-loop-letter : goal.invariant-loop-letter
invariant-loop-letter l = Reached l.t l.fn.m (take l.letter-index l.word) l.x
