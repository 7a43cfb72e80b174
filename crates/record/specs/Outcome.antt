-- What a service that writes does: its answer, and what it leaves in the lent buffer.
--   Outcome     a refusal by row, record and place, or the bytes written from the buffer's start
--   answer_of   what the service returns
--   buffer_of   what the buffer holds afterwards
--   answer_in   the same two of a service whose outcome goes by the room in its buffer
--   buffer_in
--   checked     the check of a record, then what follows
--   fit         row 12 of the refusal table
--   rewrite_of  a record read and written afresh
use Rattle.std.specs.Prelude.{ℕ, List, ◌++◌, cond, length, drop, ltb, Result, Ok, Err}
use Rattle.record.specs.Record.{check_of}
use Rattle.record.specs.Rules.{Check, refusal}
use Rattle.record.specs.declared.Rule.{Rule}
use Rattle.record.specs.declared.Rule.TheVariants.{NoRoom}
use Rattle.record.specs.declared.Refusal.{Refusal}

pub data Outcome : Type 0 where
  refused : Rule → ℕ → ℕ → Outcome
  wrote : List ℕ → Outcome

abbrev pub answer_of : Outcome → Result ℕ Refusal
answer_of (refused rule which place) = Err (refusal rule which place)
answer_of (wrote out) = Ok (length out)

-- A refusal leaves the buffer as it is, and so stay the bytes past those written.
abbrev pub buffer_of : Outcome → List ℕ → List ℕ
buffer_of (refused rule which place) buf = buf
buffer_of (wrote out) buf = out ++ drop (length out) buf

abbrev pub answer_in : (ℕ → Outcome) → List ℕ → Result ℕ Refusal
answer_in o buf = answer_of (o (length buf))

abbrev pub buffer_in : (ℕ → Outcome) → List ℕ → List ℕ
buffer_in o buf = buffer_of (o (length buf)) buf

-- The record's refusal is the whole answer.
abbrev pub checked : Check → ℕ → Outcome → Outcome
checked (Ok u) which rest = rest
checked (Err f) which rest = refused f.rule which f.place

-- Row 12, for a buffer of so many bytes.
unfoldable pub fit : ℕ → List ℕ → Outcome
fit room out = cond (ltb room (length out)) (refused NoRoom 0 (length out)) (wrote out)

-- Rows 1 to 7, then 12. Every byte of a record is a field, so what is written is the record itself.
unfoldable pub rewrite_of : List ℕ → ℕ → Outcome
rewrite_of bs room = checked (check_of bs) 1 (fit room bs)
