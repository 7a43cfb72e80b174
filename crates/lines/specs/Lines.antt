-- The lines of a marking (01: Marking a script): fields with a space between them, and the byte 0A at the end.
--   refused_line i n p         i refused n p
--   key_line d                 0 key dim d
--   same_line i d              i same dim d
--   differ_line i d w s        i differ dim d word w accepted-by s
--   too_long_line              too long
--   Begins out n text          the first n bytes of a buffer are the text
use Rattle.std.specs.Prelude.{◌≡◌, List, ◌++◌, ℕ, ◌≤◌, length, take}
use Rattle.text.specs.Text.{ascii, decimal, word_text}
use Rattle.verdict.specs.declared.Side.{Side}
use Rattle.verdict.specs.declared.Side.TheVariants.{First, Second}

-- How the line of a record starts: its index, words, and a number.
unfoldable pub opening : ℕ → List ℕ → ℕ → List ℕ
opening index words n = decimal index ++ words ++ decimal n

unfoldable pub refused_line : ℕ → ℕ → ℕ → List ℕ
refused_line index number place = opening index (ascii " refused ") number ++ ascii " " ++ decimal place ++ ascii "\n"

-- A line that says no more than a dimension.
unfoldable pub dim_line : ℕ → List ℕ → ℕ → List ℕ
dim_line index words d = opening index words d ++ ascii "\n"

abbrev pub key_line : ℕ → List ℕ
key_line d = dim_line 0 (ascii " key dim ") d

abbrev pub same_line : ℕ → ℕ → List ℕ
same_line index d = dim_line index (ascii " same dim ") d

-- The key is the first record of a comparison, the answer the second.
abbrev pub accepted_by : Side → List ℕ
accepted_by First = ascii " accepted-by key\n"
accepted_by Second = ascii " accepted-by answer\n"

unfoldable pub differ_line : ℕ → ℕ → List ℕ → Side → List ℕ
differ_line index d w side = opening index (ascii " differ dim ") d ++ ascii " word " ++ word_text w ++ accepted_by side

abbrev pub too_long_line : List ℕ
too_long_line = ascii "too long\n"

-- No line of a record has more bytes: 20 figures each for the index and the dimension, 63 letters.
abbrev pub longest : ℕ
longest = 160

pub record Begins (out : List ℕ) (n : ℕ) (text : List ℕ) : Type 0 where
  pub within : n ≤ length out
  pub bytes : take n out ≡ text
