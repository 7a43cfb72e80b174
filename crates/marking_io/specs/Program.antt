-- What the program does with a script, from a reader to a writer.
--   Marks m w w' s      of a script s that was read: what was put behind what the writer held, w, is the text of s, and where printing failed the
--                       front of it
--   MarksRead i m w w' b  the same of the script that was read into the buffer b; where it could not be read, nothing was put there
--   MarksFrom r m w w'  the same of the script that a reader gives: what it had left, r, but no more of it than is read at most
use Rattle.std.specs.Prelude.{◌≡◌, List, ℕ, Option, IfSome, Result, Ok, Err, take}
use Rattle.std.specs.Io.KnownBytes.{Keeps, Appends}
use Rattle.std.specs.declared.io.Error.{Error}
use Rattle.marking_io.specs.Text.{IsText, read_bytes}
use Rattle.marking_io.specs.Calls.{script_in, PrintsPart}
use Rattle.marking_io.specs.declared.MarkError.{MarkError}
use Rattle.marking_io.specs.declared.MarkError.TheVariants.{Unreadable, Unwritable}

abbrev pub Marks : Result Unit MarkError → Option (List ℕ) → Option (List ℕ) → List ℕ → Type 0
Marks (Ok done) old new s = (t : List ℕ) × IsText s t × Appends old new t
Marks (Err (Unreadable e)) old new s = ⊥
Marks (Err (Unwritable e)) old new s = (t : List ℕ) × IsText s t × PrintsPart old new t

abbrev pub MarksRead : Result ℕ Error → Result Unit MarkError → Option (List ℕ) → Option (List ℕ) → List ℕ → Type 0
MarksRead (Ok k) m old new b = Marks m old new (script_in (Ok k) b)
MarksRead (Err e) m old new b = (m ≡ Err (Unreadable e)) × Keeps old new

abbrev pub MarksOf : Option (List ℕ) → Result Unit MarkError → Option (List ℕ) → Option (List ℕ) → Type 0
MarksOf left m old new = (s : List ℕ) × IfSome left (λ xs. s ≡ take read_bytes xs) × Marks m old new s

abbrev pub MarksFrom : Option (List ℕ) → Result Unit MarkError → Option (List ℕ) → Option (List ℕ) → Type 0
MarksFrom left (Ok done) old new = MarksOf left (Ok done) old new
MarksFrom left (Err (Unreadable e)) old new = Keeps old new
MarksFrom left (Err (Unwritable e)) old new = MarksOf left (Err (Unwritable e)) old new
