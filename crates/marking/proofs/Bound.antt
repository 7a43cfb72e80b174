-- How many lines there are: a record has at least 15 bytes, so only an index below 4,370 has a line.
use mathlib.Core.Path.{◌≡◌, refl, ap}
use mathlib.Core.Bool.{Bool, true, false, cond}
use mathlib.Core.List.{List, []}
use Prim.Native.Nat.{ℕ, zero, suc, ◌+◌, ◌*◌, ◌≤◌, ◌<◌}
use native.Mathlib.Decide.{dec_lt}
use native.Mathlib.Omega.{arith}
use lib.Dec.{eqb}
use lib.ListN.{length}
use Rattle.record.specs.Record.{check_of}
use Rattle.std.specs.Prelude.{None, Some, Ok, Err}
use Rattle.record.specs.Rules.{Check}
use Rattle.script.specs.Script.{Part, part_at, bytes_at}
use Rattle.script.proofs.Parts.{whole_stands}
use Rattle.walk.specs.Walk.{on_good, past_part, past_of, place_of}
use Rattle.marking.specs.Marking.{max_script, mark_line}
use Rattle.marking.proofs.Cases.{long_later, line_end}

-- Where marking goes on short of the script's end, it has passed a record.
goes_past : (b : Bool) (c : Check) (next end least : ℕ) → least ≤ next → cond b (on_good c next end) next < end → least ≤ cond b (on_good c next end) next
goes_past true (Ok u) next end least h q = h
goes_past true (Err f) next end least h q = absurd (omega arith)
goes_past false c next end least h q = h

past_far : (s : List ℕ) (index at : ℕ) → past_of s index at < length s → at + 15 ≤ past_of s index at
unfolding past_of
past_far s index at = go (part_at s at) refl
  where
    go : (p : Part) → part_at s at ≡ p → past_part s index p < length s → at + 15 ≤ past_part s index p
    go (Some (Ok w)) e h =
        let p = whole_stands s at w.start w.next e in
        goes_past (eqb index 0) (check_of (bytes_at s w.start w.next)) w.next (length s) (at + 15) (omega (arith, p.here, p.long)) h
    go (Some (Err f)) e h = absurd (omega arith)
    go None e h = absurd (omega arith)

place_far : (s : List ℕ) (i : ℕ) → place_of s i < length s → 15 * i ≤ place_of s i
unfolding place_of
place_far s zero h = omega arith
place_far s (suc i) h =
    let p = past_far s i (place_of s i) h in
    omega (arith, p, place_far s i (omega (arith, p, h)))

pub line_index : (s : List ℕ) (index : ℕ) → 0 < length (mark_line s index) → index < 4370
unfolding mark_line
line_index s index some = go (dec_lt index 4370)
  where
    none : (index ≡ 0 → ⊥) → 4370 ≤ index → Dec (max_script < length s) → Dec (place_of s index < length s) → mark_line s index ≡ []
    none h far (yes long) place = long_later s index (place_of s index) long h
    none h far (no short) (yes before) = absurd (omega (arith, place_far s index before))
    none h far (no short) (no past) = line_end s index (place_of s index) (omega arith) (omega arith)

    go : Dec (index < 4370) → index < 4370
    go (yes h) = h
    go (no h) =
        let e = none (λ z. omega arith) (omega arith) (dec_lt max_script (length s)) (dec_lt (place_of s index) (length s)) in
        absurd (omega (arith, ap length e))
