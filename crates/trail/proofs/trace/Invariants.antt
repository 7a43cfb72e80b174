-- `trace`: the letters from p on are written, and the word of row r is what comes before.
use Rattle.trail.proofs.TraceLaws.{Writing}
use Rattle.trail.proofs.trace.Given as goal

abbrev pub invariant-loop-r : goal.invariant-loop-r
invariant-loop-r l = Writing l.k l.w l.n l.r l.p l.initial.word l.word

abbrev pub decreases-loop-r : goal.decreases-loop-r
decreases-loop-r l = l.r
