-- `stage`: the pairs whose lower row is below r have exchanged bit b, and r is where a run starts.
use mathlib.Core.Path.{◌≡◌}
use Prim.Native.Nat.{ℕ, suc, ◌-◌, ◌*◌, ◌^◌, ◌≤◌}
use Rattle.rows.specs.Table.{row}
use Rattle.transpose.specs.Exchange.{staged, HasRows, OnlyBlock}
use Rattle.transpose.proofs.stage.Given as goal

abbrev pub invariant-loop-r : goal.invariant-loop-r
invariant-loop-r l = (l.r ≤ 2 ^ l.w) × OnlyBlock l.l l.initial.t l.t × HasRows l.l (2 ^ l.w) (staged l.b 0 l.r (row l.initial.t l.l)) l.t × ((h : ℕ) × (l.r ≡ h * 2 ^ suc l.b))

abbrev pub decreases-loop-r : goal.decreases-loop-r
decreases-loop-r l = 2 ^ l.w - l.r
