-- What a marking line tells of a record's words, over all words of any length.
--   RecordAt s index bs               bs are the bytes of the record of an index
--   KeyTold key line                  the dimension in the key's line is that of its language
--   AnswerTold index key answer line  an answer's line says `same` exactly when its words are the key's; else its word is the first
--                                     that just one of the two accepts, and the one named accepts it; its dimension is the answer's own
--   Told s index line                 both, for the record of an index
--   Marks s index exit r              what is claimed of the marking service's answer r and the buffer at exit
--   RefusedWith ns line               where a line says `refused`, its number is one of ns
--   SaysRefused ns exit r             the same of the line that the service's answer r grants
use Rattle.std.specs.Prelude.{◌≡◌, List, ℕ, ◌<◌, ◌≤◌, length, take, Some, Result, Ok}
use Rattle.automata.specs.Count.{Member}
use Rattle.record.specs.Record.{WellFormed}
use Rattle.record.specs.Claims.{HasDimension, Operands, SameWords}
use Rattle.record.specs.declared.Refusal.{Refusal}
use Rattle.verdict.specs.declared.Side.{Side}
use Rattle.compare.specs.Compare.{Differ}
use Rattle.script.specs.Script.{part_at, bytes_at, whole}
use Rattle.lines.specs.Lines.{refused_line, key_line, same_line, differ_line}
use Rattle.walk.specs.Walk.{place_of}
use Rattle.marking.specs.Marking.{max_script}

-- Of a key and answers end to end, the record of index 0 is the key, and that of index i + 1 the answer i (proofs/EndToEnd).
pub record RecordAt (s : List ℕ) (index : ℕ) (bs : List ℕ) : Type 0 where
  pub start : ℕ
  pub next : ℕ
  pub whole : part_at s (place_of s index) ≡ Some (Ok (whole start next))
  pub bytes : bs ≡ bytes_at s start next

abbrev pub KeyTold : List ℕ → List ℕ → Type 0
KeyTold key line = (d : ℕ) → (line ≡ key_line d → HasDimension key d) × (HasDimension key d → line ≡ key_line d)

pub record AnswerTold (index : ℕ) (key answer line : List ℕ) : Type 0 where
  pub says_same : (d : ℕ) → line ≡ same_line index d → SameWords key answer × HasDimension answer d
  pub same : (d : ℕ) → SameWords key answer → HasDimension answer d → line ≡ same_line index d
  pub says_differ : (d : ℕ) (w : List ℕ) (side : Side) → line ≡ differ_line index d w side → Differ key answer w side × HasDimension answer d
  pub differ : (d : ℕ) (w : List ℕ) (side : Side) → Differ key answer w side → HasDimension answer d → line ≡ differ_line index d w side

pub record Told (s : List ℕ) (index : ℕ) (line : List ℕ) : Type 0 where
  pub key : (key : List ℕ) → index ≡ 0 → RecordAt s 0 key → WellFormed key → KeyTold key line
  pub answer : (key answer : List ℕ) → 0 < index → RecordAt s 0 key → RecordAt s index answer
      → Operands key answer → AnswerTold index key answer line

-- Of the marking service, for a script that is not too long: where the answer grants, the line written tells it.
abbrev pub Marks : List ℕ → ℕ → List ℕ → Result ℕ Refusal → Type 0
Marks s index exit r = length s ≤ max_script → (n : ℕ) → r ≡ Ok n → Told s index (take n exit)

abbrev pub RefusedWith : List ℕ → List ℕ → Type 0
RefusedWith ns line = (index number place : ℕ) → line ≡ refused_line index number place → Member number ns

-- Of the marking service, whatever the script.
abbrev pub SaysRefused : List ℕ → List ℕ → Result ℕ Refusal → Type 0
SaysRefused ns exit r = (n : ℕ) → r ≡ Ok n → RefusedWith ns (take n exit)
