-- Runs of bytes stored in a line.
use mathlib.Core.Path.{◌≡◌, refl, sym, ◌∙◌}
use mathlib.Core.List.{List, ◌++◌}
use Prim.Native.Nat.{ℕ, ◌+◌, ◌≤◌}
use native.Mathlib.Omega.{arith}
use lib.ListN.{length, take}
use lib.Seq.{sets, sets-eq, paste, take-paste, take_all, length-take-le}
use borrow.Rule.Slice.PartMut.{put_mid}
use Rattle.std.proofs.lemmas.Slice.{put_mid-paste}

stores : (l run : List ℕ) (at : ℕ) → at + length run ≤ length l → paste l at run (length run) ≡ sets l at run
stores l run at h = rw (take_all (length run) run (omega arith)) (sym (sets-eq run l at h))

-- A part of a line that is written as a whole.
pub run_stored : (l run part : List ℕ) (at k : ℕ) → part ≡ run → k ≡ length run → at + k ≤ length l → put_mid at k l part ≡ sets l at run
run_stored l run part at k e n h = put_mid-paste at k l part run (length run) e (sym n) refl ∙ stores l run at (omega arith)

-- What stands before the end of a run: what stood before its start, and the run.
pub run_last : (l run : List ℕ) (at k : ℕ) → k ≡ at + length run → k ≤ length l → take k (sets l at run) ≡ take at l ++ run
run_last l run at k e h =
    rw (← stores l run at (omega arith), e)
    (take-paste l at run (length run) (omega arith) (omega arith) ∙ rw (take_all (length run) run (omega arith)) refl)

-- That law, and how long what stood there is.
pub ruleset run_ends = (run_last, length-take-le)
