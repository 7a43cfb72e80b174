-- `copy_rows`: the rows below i are copied.
use mathlib.Core.Path.{◌≡◌}
use Prim.Native.Nat.{ℕ, ◌<◌}
use Rattle.rows.specs.Table.{at}
use Rattle.transpose.specs.Exchange.{OnlyBlock}
use Rattle.transpose.proofs.copy_rows.Given as goal

abbrev pub invariant-loop-i : goal.invariant-loop-i
invariant-loop-i l = OnlyBlock l.l l.initial.c l.c × ((r : ℕ) → r < l.i → at l.c l.l r ≡ at l.t l.l r)
