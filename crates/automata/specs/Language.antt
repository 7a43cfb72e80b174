-- Languages: sets of words, given by membership, and the operations on them (01: Meaning).
--   Same a L K              the same words over a letters
--   quotient L u            the words v with uv in L
--   symmetric_difference    the words of just one of two languages (01: sum)
--   intersection            the words of both (01: meet)
--   complement              the words that a language lacks
--   reversal                the reversed words (01: mirror)
--   restriction a L         the words of L over a letters: a word with any other letter is not one of them (02, Note 3)
use Rattle.std.specs.Prelude.{◌≡◌, Bool, not, ◌&&◌, List, ◌++◌, reverse, ℕ}
use Rattle.automata.specs.Xor.{◌⊕◌}
use Rattle.automata.specs.Word.{Over, is_over}

abbrev pub Language : Type 0
Language = List ℕ → Bool

abbrev pub Same : ℕ → Language → Language → Type 0
Same a L K = (w : List ℕ) → Over a w → L w ≡ K w

abbrev pub quotient : Language → List ℕ → Language
quotient L u v = L (u ++ v)

abbrev pub symmetric_difference : Language → Language → Language
symmetric_difference L K w = L w ⊕ K w

abbrev pub intersection : Language → Language → Language
intersection L K w = L w && K w

abbrev pub complement : Language → Language
complement L w = not (L w)

abbrev pub reversal : Language → Language
reversal L w = L (reverse w)

abbrev pub restriction : ℕ → Language → Language
restriction a L w = is_over a w && L w
