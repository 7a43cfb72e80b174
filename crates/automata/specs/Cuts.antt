-- Concatenation and star of languages, by the parity of the number of cuts (02, Note 2: product and star).
--   empty_word            the language of the empty word only
--   Cut K L w c           c is a cut of w into a word of K and then a word of L
--   cut_count K L w       the number of those cuts, a whole number
--   concatenation K L     the words whose number of cuts is odd (02: product)
--   Pieces L w ps         ps is a cut of w into words of L
--   star_count L w        the number of those cuts, a whole number, where L lacks the empty word
--   star L                the words whose number of cuts is odd
--   SolvesStar a L T      T is the sum of the empty word and the concatenation of L and T, over a letters
-- That each number is that of the cuts is proved (proofs/Cuts: cut-count, star-count).
use Rattle.std.specs.Prelude.{◌≡◌, true, false, ◌&&◌, cond, List, [], ◌∷◌, ◌++◌, ℕ, suc, ◌+◌, length, take, drop}
use Rattle.automata.specs.Automaton.{sum_below, odd}
use Rattle.automata.specs.Language.{Language, Same, symmetric_difference}

abbrev pub empty_word : Language
empty_word [] = true
empty_word (l ∷ w) = false

-- ---- concatenation

-- The two parts, in order, make up w.
abbrev pub Cut : Language → Language → List ℕ → List ℕ × List ℕ → Type 0
Cut K L w c = (c.0 ++ c.1 ≡ w) × (K c.0 ≡ true) × (L c.1 ≡ true)

-- One for each place at which w is cut so: before its first letter, .., after its last.
abbrev pub cut_count : Language → Language → List ℕ → ℕ
cut_count K L w = sum_below (suc (length w)) (λ i. cond (K (take i w) && L (drop i w)) 1 0)

abbrev pub concatenation : Language → Language → Language
concatenation K L w = odd (cut_count K L w)

-- ---- star

-- The words of a list, end to end.
abbrev pub join_all : List (List ℕ) → List ℕ
join_all [] = []
join_all (p ∷ ps) = p ++ join_all ps

abbrev pub AllIn : Language → List (List ℕ) → Type 0
AllIn L [] = Unit {0}
AllIn L (p ∷ ps) = (L p ≡ true) × AllIn L ps

abbrev pub Pieces : Language → List ℕ → List (List ℕ) → Type 0
Pieces L w ps = (join_all ps ≡ w) × AllIn L ps

-- What may follow the letter l in L.
abbrev pub after : ℕ → Language → Language
after l L w = L (l ∷ w)

-- The cuts of w into the rest of a piece, in K, and then words of L that are not empty: the next letter goes on with the piece, or the
-- piece ends here and the letter begins another.
abbrev pub rest_count : Language → Language → List ℕ → ℕ
rest_count K L [] = cond (K []) 1 0
rest_count K L (l ∷ w) = rest_count (after l K) L w + cond (K []) (rest_count (after l L) L w) 0

-- The empty word has one cut, into none. Pieces are not empty here: where L has the empty word there is no number of cuts into words of L,
-- and row 14 refuses.
abbrev pub star_count : Language → List ℕ → ℕ
star_count L [] = 1
star_count L (l ∷ w) = rest_count (after l L) L w

abbrev pub star : Language → Language
star L w = odd (star_count L w)

abbrev pub SolvesStar : ℕ → Language → Language → Type 0
SolvesStar a L T = Same a T (symmetric_difference empty_word (concatenation L T))
