-- `find_stray`: what is left of row 7, from the field at hand, decides the whole.
use mathlib.Core.Path.{◌≡◌}
use Prim.Native.Nat.{◌+◌, ◌-◌, ◌*◌, ◌≤◌}
use Rattle.record.specs.Record.{row_bytes, initial_at, stray_from}
use Rattle.record.proofs.Refusals.{passed}
use Rattle.record.proofs.find_stray.Given as goal

abbrev pub invariant-loop-place : goal.invariant-loop-place
invariant-loop-place l = (l.place ≡ initial_at + row_bytes * passed l.place) × (passed l.place ≤ l.k) × (stray_from row_bytes l.n l.bytes l.k initial_at ≡ stray_from row_bytes l.n l.bytes (l.k - passed l.place) l.place)

abbrev pub decreases-loop-place : goal.decreases-loop-place
decreases-loop-place l = l.end - l.place
