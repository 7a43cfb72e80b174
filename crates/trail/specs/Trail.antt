-- A trail: for each row of a search a step, the earlier row and the letter that it came from.
--   from_in w r, by_in w r  the row and the letter that row r came from
--   linked w d k l          the trail with row d from row k by letter l
--   word_in w r             the word of row r: that of the row it came from, and the letter
--   Traced a k w            what is known of the words of the rows up to row k
use Rattle.std.specs.Prelude.{◌≡◌, List, [], ◌∷◌, ◌++◌, ℕ, ◌<◌, ◌≤◌, get_or, set}
use Rattle.automata.specs.Tree.{word_to}
use Rattle.rows.specs.Row.{width}
use Rattle.rows.specs.Table.{blocks}
use Rattle.trail.specs.declared.Step.{Step}

abbrev pub trail_size : ℕ
trail_size = 64

-- Past the end of a trail.
abbrev pub no_step : Step
no_step = record { from = 0; letter = 0 }

unfoldable pub from_in : List Step → ℕ → ℕ
from_in w r = (get_or w r no_step).from

unfoldable pub by_in : List Step → ℕ → ℕ
by_in w r = (get_or w r no_step).letter

unfoldable pub linked : List Step → ℕ → ℕ → ℕ → List Step
linked w d k l = set w d (record { from = k; letter = l })

abbrev pub word_in : List Step → ℕ → List ℕ
word_in w r = word_to (from_in w) (by_in w) r

-- Each row up to k but the first has the word of an earlier row and one letter.
pub record Traced (a k : ℕ) (w : List Step) : Type 0 where
  pub small : k < width
  pub letters : a ≤ blocks
  pub parent : (r : ℕ) → 0 < r → r ≤ k → from_in w r < r
  pub letter : (r : ℕ) → 0 < r → r ≤ k → by_in w r < a
  pub word : (r : ℕ) → 0 < r → r ≤ k → word_in w r ≡ word_in w (from_in w r) ++ (by_in w r ∷ [])
