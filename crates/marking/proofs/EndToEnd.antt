-- The records of a script, end to end, stand where marking looks for them: the key first, then each answer in turn. What the reader gives
-- out, one record after another, is what marking finds.
use mathlib.Core.Path.{refl, sym, ap, ◌∙◌}
use mathlib.Core.List.{List, [], ◌∷◌}
use Prim.Native.Nat.{ℕ, suc, ◌<◌, ◌≤◌}
use native.Mathlib.Omega.{arith}
use lib.ListN.{length, get_or}
use Rattle.record.specs.Record.{check_of, WellFormed}
use Rattle.record.specs.Claims.{Operands}
use Rattle.script.specs.Script.{part_at}
use Rattle.script.proofs.Reading.{read_first}
use Rattle.script.proofs.EndToEnd.{joined, AllFramed, formed_framed, GivenOut, given_out}
use Rattle.walk.proofs.Reader.{GoesOn, key_passes, place_given}
use Rattle.marking.specs.Marking.{max_script, mark_line}
use Rattle.marking.specs.Told.{RecordAt, AnswerTold}
use Rattle.marking.proofs.ToldLaws.{told}

module _ (key : List ℕ) (answers : List (List ℕ)) (good : WellFormed key) (framed : AllFramed answers) where
  abbrev script : List ℕ
  script = joined (key ∷ answers)

  given : (i : ℕ) → i < suc (length answers) → GivenOut script i (get_or (key ∷ answers) i [])
  given i h = given_out (key ∷ answers) (formed_framed key good, framed) i h

  -- A key that is well formed does not stop the marking.
  goes_on : GoesOn script
  goes_on =
      let g = given 0 (omega arith) in
      key_passes script g.start g.next (sym (ap (part_at script) (read_first script)) ∙ g.whole) (sym (ap check_of g.bytes) ∙ good)

  record_at : (i : ℕ) → i < suc (length answers) → RecordAt script i (get_or (key ∷ answers) i [])
  record_at i h =
      let g = given i h in
      record { start = g.start; next = g.next; whole = ap (part_at script) (place_given script goes_on i g.start g.next g.whole) ∙ g.whole; bytes = g.bytes }

  pub key_at : RecordAt script 0 key
  key_at = record_at 0 (omega arith)

  pub answer_at : (i : ℕ) → i < length answers → RecordAt script (suc i) (get_or answers i [])
  answer_at i h = record_at (suc i) (omega arith)

  -- The line of each answer tells of it and the key.
  pub answers_told : length script ≤ max_script → (i : ℕ) → i < length answers → Operands key (get_or answers i [])
      → AnswerTold (suc i) key (get_or answers i []) (mark_line script (suc i))
  answers_told short i h p = (told script (suc i) (mark_line script (suc i)) short refl).answer key (get_or answers i []) (omega arith) key_at (answer_at i h) p
