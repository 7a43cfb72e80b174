-- The text that the program prints (01: Marking a script): the lines of the indices 0, 1, 2 and so on, up to the first index without one.
--   lines_below s k  the lines of the indices below k, end to end
--   IsText s t       t is the text of a script
--   read_bytes       how many bytes are read at most: one more than a script may have
--   most_lines       no script has a line of this index or of one after it
--   text_room        a buffer of so many bytes has room for every text, and for one line more
use Rattle.std.specs.Prelude.{◌≡◌, List, ℕ, ◌+◌, ◌*◌, ◌<◌, length}
use Rattle.automata.specs.WordList.{join_below}
use Rattle.lines.specs.Lines.{longest}
use Rattle.marking.specs.Marking.{max_script, mark_line}

unfoldable pub lines_below : List ℕ → ℕ → List ℕ
lines_below s k = join_below k (mark_line s)

-- There is one for each script (`text_unique` in proofs).
pub record IsText (s t : List ℕ) : Type 0 where
  pub count : ℕ
  pub bytes : t ≡ lines_below s count
  pub each : (i : ℕ) → i < count → 0 < length (mark_line s i)
  pub last : length (mark_line s count) ≡ 0

-- So that a script that is too long is seen to be so.
abbrev pub read_bytes : ℕ
read_bytes = max_script + 1

abbrev pub most_lines : ℕ
most_lines = 4370

abbrev pub text_room : ℕ
text_room = most_lines * longest + longest
