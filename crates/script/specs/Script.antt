-- What stands at a position of a script: records end to end (01: Marking a script).
--   Part                   a whole record and where the next one starts, a refusal 1 to 6, or nothing where the script ends
--   part_at s at           what stands at a position
--   after_part p at        where a reader stands afterwards: past a record, else where it was
--   Advances r p r'        a reader r gives out the part p that stands where it is, and is then r': past it, in the same script
--   read_to s k            where the reader of a script stands after k calls: from the start on, past one record after another
--   part_of_index s k      what it gives out at its call of index k
--   is_last p left         whether a reader that has given out p is asked no more: none is left to ask for, or it stays where it is
--   bytes_at s start next  the bytes of a record
--   Within s w             a whole record has bytes, and ends within the script
--   WhereWhole p P         a whole record has a property
use Rattle.std.specs.Prelude.{◌≡◌, Bool, true, cond, List, ℕ, zero, suc, ◌+◌, ◌-◌, ◌<◌, ◌≤◌, ltb, leb, eqb, length, take, drop, Option, None, Some, Result, Ok, Err}
use Rattle.record.specs.Record.{front_of, need_of}
use Rattle.record.specs.Rules.{Check, fault}
use Rattle.record.specs.declared.Rule.TheVariants.{WrongLength}
use Rattle.record.specs.declared.Fault.{Fault}
use Rattle.script.specs.declared.Script.{Script}
use Rattle.script.specs.declared.Whole.{Whole}

abbrev pub Part : Type 0
Part = Option (Result Whole Fault)

abbrev pub whole : ℕ → ℕ → Whole
whole start next = record { start = start; next = next }

-- A refusal is the whole answer; else the rest decides.
abbrev pub passed : Check → Result Whole Fault → Result Whole Fault
passed (Ok u) rest = rest
passed (Err f) rest = Err f

-- Rows 1 to 5 on the bytes that are left, then row 6: fewer are left than the record needs. The first of them stands at `at`.
unfoldable pub part_of : List ℕ → ℕ → Result Whole Fault
part_of left at =
    passed (front_of left)
    (cond (ltb (length left) (need_of left)) (Err (fault WrongLength (need_of left)))
    (Ok (whole at (at + need_of left))))

-- With 0 bytes left the script ends.
unfoldable pub part_at : List ℕ → ℕ → Part
part_at s at = cond (leb (length s) at) None (Some (part_of (drop at s) at))

abbrev pub after_part : Part → ℕ → ℕ
after_part (Some (Ok w)) at = w.next
after_part (Some (Err f)) at = at
after_part None at = at

abbrev pub Advances : Script → Part → Script → Type 0
Advances r p r' = (p ≡ part_at r.bytes.now r.at) × ((r'.bytes ≡ r.bytes) × (r'.at ≡ after_part p r.at))

unfoldable pub read_to : List ℕ → ℕ → ℕ
read_to s zero = 0
read_to s (suc k) = after_part (part_at s (read_to s k)) (read_to s k)

abbrev pub part_of_index : List ℕ → ℕ → Part
part_of_index s k = part_at s (read_to s k)

abbrev pub is_last : Part → ℕ → Bool
is_last (Some (Ok w)) left = eqb left 0
is_last (Some (Err f)) left = true
is_last None left = true

abbrev pub bytes_at : List ℕ → ℕ → ℕ → List ℕ
bytes_at s start next = take (next - start) (drop start s)

pub record Within (s : List ℕ) (w : Whole) : Type 0 where
  pub some : w.start < w.next
  pub end : w.next ≤ length s

abbrev pub WhereWhole : Part → (Whole → Type 0) → Type 0
WhereWhole (Some (Ok w)) P = P w
WhereWhole (Some (Err f)) P = Unit {0}
WhereWhole None P = Unit {0}
