-- Marking a script (01: Marking a script): the line of the record of each index, and the marking service.
--   dimension_in bs            the dimension of a record's language
--   fault_line index f         the line of a record that is refused
--   key_of s                   the bytes of a script's first record
--   record_line s index bs     the line of a record that stands whole, as that of an index
--   part_line s index p        the line of a part of the script: of a record, of a refusal, or none at the end
--   line_at s index at         the line of what stands at a position, as that of an index
--   mark_line s index          the line of an index, no bytes where there is none
--   mark_outcome s index room  what the service does with a buffer of so many bytes
use Rattle.std.specs.Prelude.{cond, List, [], ℕ, ltb, eqb, length, take, None, Some, Ok, Err}
use Rattle.std.proofs.Math.Option.{Option, none, some}
use Rattle.automata.specs.MinimalOf.{dimension_of}
use Rattle.record.specs.Record.{letters_of, check_of, automaton_of, language_of}
use Rattle.record.specs.Outcome.{Outcome, fit}
use Rattle.record.specs.Rules.{number_of, Check, Checks, fault}
use Rattle.record.specs.declared.Fault.{Fault}
use Rattle.operands.specs.Operands.{pair_of}
use Rattle.verdict.specs.Side.{side_of}
use Rattle.compare.specs.Compare.{difference_of}
use Rattle.script.specs.Script.{Part, part_at, after_part, bytes_at}
use Rattle.walk.specs.Walk.{place_of}
use Rattle.lines.specs.Lines.{refused_line, key_line, same_line, differ_line, too_long_line}

abbrev pub max_script : ℕ
max_script = 65536

abbrev pub dimension_in : List ℕ → ℕ
dimension_in bs = dimension_of (letters_of bs) (automaton_of bs)

-- ---- the line of a record

abbrev pub fault_line : ℕ → Fault → List ℕ
fault_line index f = refused_line index (number_of f.rule) f.place

-- A record's refusal is told in its line.
abbrev pub checked_line : Check → List ℕ → List ℕ
checked_line (Ok u) rest = rest
checked_line (Err f) rest = fault_line 0 f

unfoldable pub key_record_line : List ℕ → List ℕ
key_record_line key = checked_line (check_of key) (key_line (dimension_in key))

abbrev pub verdict_line : ℕ → List ℕ → ℕ → Option (List ℕ) → List ℕ
verdict_line index key d none = same_line index d
verdict_line index key d (some w) = differ_line index d w (side_of (language_of key w))

abbrev pub paired_line : ℕ → Checks → List ℕ → List ℕ
paired_line index (Ok u) rest = rest
paired_line index (Err r) rest = fault_line index (fault r.rule r.place)

-- Rows 1 to 8 of the two; then the verdict, with the answer's own dimension.
unfoldable pub answer_line : ℕ → List ℕ → List ℕ → List ℕ
answer_line index key answer =
    paired_line index (pair_of key answer)
    (verdict_line index key (dimension_in answer) (difference_of key answer))

-- ---- the line of what stands at a position

unfoldable pub key_of : List ℕ → List ℕ
key_of s = take (after_part (part_at s 0) 0) s

-- The key has index 0.
unfoldable pub record_line : List ℕ → ℕ → List ℕ → List ℕ
record_line s index bs = cond (eqb index 0) (key_record_line bs) (answer_line index (key_of s) bs)

-- With 0 bytes left marking ends, so a script of 0 bytes has no lines.
abbrev pub part_line : List ℕ → ℕ → Part → List ℕ
part_line s index (Some (Ok w)) = record_line s index (bytes_at s w.start w.next)
part_line s index (Some (Err f)) = fault_line index f
part_line s index None = []

-- A script that is too long has one line.
unfoldable pub line_at : List ℕ → ℕ → ℕ → List ℕ
line_at s index at = cond (ltb max_script (length s)) (cond (eqb index 0) too_long_line []) (part_line s index (part_at s at))

-- ---- the service

unfoldable pub mark_line : List ℕ → ℕ → List ℕ
mark_line s index = line_at s index (place_of s index)

-- A record's refusal is told in its line, so the service itself refuses only with 12.
unfoldable pub mark_outcome : List ℕ → ℕ → ℕ → Outcome
mark_outcome s index room = fit room (mark_line s index)
