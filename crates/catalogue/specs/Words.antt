-- The words of each entry, as 01 names them (01: Catalogue).
--   no_word          0: no word
--   every_word       1: every word
--   only_empty       2: the empty word only
--   ends_in_one      3: the words whose last letter is 1
--   first_run w      how many letters 0 stand before the first other letter of w, or before its end
--   later_runs w     the same after each other letter of w, in order
--   runs w           the lengths of all runs of letter 0; where no 0 stands before, between or after other letters, the length is 0
--   language_x       4: the words no run of which has a length that leaves 2 on division by 3
--   length_by_seven  5: the words whose length leaves 0, 1, 2 or 4 on division by 7
--   entry_words j    the words of entry j
use Rattle.std.specs.Prelude.{Bool, true, false, not, ◌&&◌, ◌||◌, List, [], ◌∷◌, ℕ, zero, suc, ◌%◌, eqb, length, get_or}
use Rattle.automata.specs.Language.{Language}

abbrev pub no_word : Language
no_word w = false

abbrev pub every_word : Language
every_word w = true

abbrev pub only_empty : Language
only_empty [] = true
only_empty (l ∷ w) = false

abbrev pub ends_in_one : Language
ends_in_one [] = false
ends_in_one (l ∷ []) = eqb l 1
ends_in_one (l ∷ m ∷ w) = ends_in_one (m ∷ w)

abbrev pub first_run : List ℕ → ℕ
first_run [] = 0
first_run (zero ∷ w) = suc (first_run w)
first_run (suc l ∷ w) = 0

abbrev pub later_runs : List ℕ → List ℕ
later_runs [] = []
later_runs (zero ∷ w) = later_runs w
later_runs (suc l ∷ w) = first_run w ∷ later_runs w

abbrev pub runs : List ℕ → List ℕ
runs w = first_run w ∷ later_runs w

-- A run's length does not leave 2 on division by 3.
abbrev pub allowed : ℕ → Bool
allowed k = not (eqb (k % 3) 2)

abbrev pub all_allowed : List ℕ → Bool
all_allowed [] = true
all_allowed (k ∷ ks) = allowed k && all_allowed ks

abbrev pub language_x : Language
language_x w = all_allowed (runs w)

-- 0, 1, 2 or 4.
abbrev pub listed : ℕ → Bool
listed r = eqb r 0 || (eqb r 1 || (eqb r 2 || eqb r 4))

abbrev pub length_by_seven : Language
length_by_seven w = listed (length w % 7)

abbrev pub languages : List Language
languages = no_word ∷ every_word ∷ only_empty ∷ ends_in_one ∷ language_x ∷ length_by_seven ∷ []

unfoldable pub entry_words : ℕ → Language
entry_words j = get_or languages j no_word
