-- `all_fields`: no field passed is more than what was gathered.
use mathlib.Core.Path.{◌≡◌}
use Prim.Native.Nat.{ℕ, ◌+◌, ◌-◌, ◌*◌, ◌≤◌, ◌<◌}
use Rattle.rows.specs.Row.{mask}
use Rattle.record.specs.Bytes.{number}
use Rattle.record.specs.Record.{row_bytes, initial_at}
use Rattle.record.proofs.Refusals.{passed}
use Rattle.record.proofs.all_fields.Given as goal

abbrev pub invariant-loop-p : goal.invariant-loop-p
invariant-loop-p l = (l.p ≡ initial_at + row_bytes * passed l.p) × (passed l.p ≤ l.k) × ((j : ℕ) → j < passed l.p → number row_bytes l.bytes (initial_at + row_bytes * j) ≤ mask l.y)

abbrev pub decreases-loop-p : goal.decreases-loop-p
decreases-loop-p l = l.end - l.p
