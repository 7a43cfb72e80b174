-- `first_letter`: no word of one letter below l is accepted by just one.
use mathlib.Core.Path.{◌≡◌}
use mathlib.Core.Bool.{false}
use mathlib.Core.List.{[], ◌∷◌}
use Prim.Native.Nat.{ℕ, ◌<◌}
use lib.ListN.{length}
use Rattle.automata.specs.Xor.{◌⊕◌}
use Rattle.automata.specs.Automaton.{accepts}
use Rattle.trail.specs.Trail.{trail_size}
use Rattle.record.specs.Record.{automaton_of}
use Rattle.comparison.proofs.first_letter.Given as goal

abbrev pub invariant-loop-l : goal.invariant-loop-l
invariant-loop-l l = (length l.w ≡ trail_size) × ((x : ℕ) → x < l.l → accepts (automaton_of l.first) (x ∷ []) ⊕ accepts (automaton_of l.second) (x ∷ []) ≡ false)
