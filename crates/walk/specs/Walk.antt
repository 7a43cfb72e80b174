-- The walk through a script (01: Marking a script): where the record of each index stands.
--   past_of s index at    where marking goes on after what stands at a position, as the record of an index: past a record, or the
--                        script's end where marking stops
--   place_of s index      where the record of an index stands; the script's end where marking ends before it
use Rattle.std.specs.Prelude.{cond, List, ℕ, zero, suc, eqb, length, None, Some, Ok, Err}
use Rattle.record.specs.Record.{check_of}
use Rattle.record.specs.Rules.{Check}
use Rattle.script.specs.Script.{Part, part_at, bytes_at}

-- After any refusal of the key marking stops; after 7 or 8 of an answer it goes on.
abbrev pub on_good : Check → ℕ → ℕ → ℕ
on_good (Ok u) next end = next
on_good (Err f) next end = end

-- After a refusal 1 to 6 marking stops.
abbrev pub past_part : List ℕ → ℕ → Part → ℕ
past_part s index (Some (Ok w)) = cond (eqb index 0) (on_good (check_of (bytes_at s w.start w.next)) w.next (length s)) w.next
past_part s index (Some (Err f)) = length s
past_part s index None = length s

unfoldable pub past_of : List ℕ → ℕ → ℕ → ℕ
past_of s index at = past_part s index (part_at s at)

unfoldable pub place_of : List ℕ → ℕ → ℕ
place_of s zero = 0
place_of s (suc k) = past_of s k (place_of s k)
