-- The key's line, and the line of what stands at a position, case by case.
use mathlib.Core.Path.{◌≡◌, refl, sym, ap, ◌∙◌}
use mathlib.Core.List.{List, []}
use Prim.Native.Nat.{ℕ, ◌≤◌, ◌<◌}
use native.Mathlib.Omega.{arith}
use borrow.Author.Tests.{lt-ltb, le-ltb, eq-eqb, ne_eqb}
use lib.ListN.{length}
use Rattle.record.specs.Record.{WellFormed}
use Rattle.record.specs.Outcome.{wrote}
use Rattle.record.proofs.Outcome.{fit_done}
use Rattle.script.specs.Script.{part_at}
use Rattle.script.proofs.Parts.{end_met}
use Rattle.walk.specs.Walk.{place_of}
use Rattle.lines.specs.Lines.{key_line}
use Rattle.marking.specs.Marking.{max_script, dimension_in, key_record_line, answer_line, key_of, record_line, part_line, line_at, mark_line, mark_outcome}

pub key_good : (key : List ℕ) → WellFormed key → key_line (dimension_in key) ≡ key_record_line key
unfolding key_record_line
key_good key good = rw good

module _ (s : List ℕ) (index : ℕ) (bs : List ℕ) where
  pub record_key : index ≡ 0 → record_line s index bs ≡ key_record_line bs
  unfolding record_line
  record_key e = rw (eq-eqb index 0 e)

  pub record_answer : (index ≡ 0 → ⊥) → record_line s index bs ≡ answer_line index (key_of s) bs
  unfolding record_line
  record_answer e = rw (ne_eqb index 0 e)

module _ (s : List ℕ) (index at : ℕ) where
  pub long_later : max_script < length s → (index ≡ 0 → ⊥) → line_at s index at ≡ []
  unfolding line_at
  long_later long e = rw (lt-ltb max_script (length s) long, ne_eqb index 0 e)

  pub line_part : length s ≤ max_script → line_at s index at ≡ part_line s index (part_at s at)
  unfolding line_at
  line_part short = rw (le-ltb max_script (length s) short)

  -- With 0 bytes left there is no line.
  pub line_end : length s ≤ max_script → length s ≤ at → line_at s index at ≡ []
  line_end short past = line_part short ∙ ap (part_line s index) (sym (end_met s at past))

-- A script of 0 bytes has no lines.
pub no_lines : (index : ℕ) → mark_line [] index ≡ []
unfolding mark_line
no_lines index = line_end [] index (place_of [] index) (omega arith) (omega arith)

-- So the service refuses nothing and writes nothing, whatever the index and the buffer.
pub no_refusal : (index room : ℕ) → mark_outcome [] index room ≡ wrote []
unfolding mark_outcome
no_refusal index room = rw (no_lines index) (fit_done room [] refl (omega arith))
