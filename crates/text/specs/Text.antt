-- Texts as bytes, one byte a character (01: "Figures are decimal", "The word is in digits, `-` when empty").
--   ascii t       the codes of a text's characters
--   digit d       the code of a figure, 0 to 9
--   decimal n     a number in decimal figures, no zero in front; 0 is `0`
--   word_text w   a word in digits, one a letter; `-` when it is empty
use Rattle.std.specs.Prelude.{ℕ, zero, suc, ◌+◌, ◌/◌, ◌%◌, cond, List, [], ◌∷◌, ◌++◌, map, ltb}
use Prim.Native.Char.{code}
use Prim.Native.String.{String}
use Prim.Native.String.{[] as none, ◌∷◌ as ◌then◌}

-- Every text here is of characters below 128.
abbrev pub ascii : String → List ℕ
ascii none = []
ascii (c then t) = code c ∷ ascii t

abbrev pub digit : ℕ → ℕ
digit d = code "0" + d

-- At most k figures: those of the tenth part, and then the last.
unfoldable pub figures : ℕ → ℕ → List ℕ
figures zero n = []
figures (suc k) n = cond (ltb n 10) (digit n ∷ []) (figures k (n / 10) ++ (digit (n % 10) ∷ []))

-- n + 1 figures are always enough.
unfoldable pub decimal : ℕ → List ℕ
decimal n = figures (suc n) n

unfoldable pub word_text : List ℕ → List ℕ
word_text [] = ascii "-"
word_text (l ∷ w) = map digit (l ∷ w)
