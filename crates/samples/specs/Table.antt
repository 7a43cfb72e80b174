-- The starred samples as one table (01: Samples, 1 to 8), and the case of the star (02: Note 2).
--   bytes n a fields    the record of n states over a letters: I, F and the rows
--   samples             what each starred sample says, in 01's order, and last the case
--   Every P xs          P holds of each member of a list
use Rattle.std.specs.Prelude.{List, [], ◌∷◌, ◌++◌, ℕ, zero, suc, ◌+◌, ◌*◌}
use Rattle.automata.specs.WordList.{join_below}
use Rattle.record.specs.Bytes.{all_bytes}
use Rattle.record.specs.Record.{row_bytes, head_of}
use Rattle.verdict.specs.declared.Side.TheVariants.{Second}
use Rattle.catalogue.specs.Entries.{record_of}
use Rattle.samples.specs.Languages.{entry, beginning, star, some, at_most_zero}
use Rattle.samples.specs.Claims.{minimal, sum, meet, inverse, mirror, repetition, Claim, accepted, rejected, paths, speaks, gives, differ}

-- ---- the records

abbrev pub bytes : ℕ → ℕ → List ℕ → List ℕ
bytes n a fields = head_of n a ++ all_bytes row_bytes fields

-- The four states of document 004's X 12.
unfoldable pub x12 : List ℕ
x12 = bytes 4 2 (1 ∷ 3 ∷ 2 ∷ 4 ∷ 1 ∷ 8 ∷ 1 ∷ 1 ∷ 8 ∷ 8 ∷ [])

-- Its minimal record.
unfoldable pub x : List ℕ
x = bytes 2 2 (1 ∷ 3 ∷ 2 ∷ 3 ∷ 1 ∷ 1 ∷ [])

-- n = 0 over a letters, and one state that accepts every word over them.
abbrev ones : ℕ → List ℕ
ones zero = []
ones (suc k) = 1 ∷ ones k

unfoldable pub no_states : ℕ → List ℕ
no_states a = bytes 0 a (0 ∷ 0 ∷ [])

unfoldable pub one_state : ℕ → List ℕ
one_state a = bytes 1 a (1 ∷ 1 ∷ ones a)

-- One letter, n = 2, I = F = 3, rows 1, 2.
unfoldable pub two_paths : List ℕ
two_paths = bytes 2 1 (3 ∷ 3 ∷ 1 ∷ 2 ∷ [])

-- 0* and 1* over two letters.
unfoldable pub zero_star : List ℕ
zero_star = bytes 1 2 (1 ∷ 1 ∷ 1 ∷ 0 ∷ [])

unfoldable pub one_star : List ℕ
one_star = bytes 1 2 (1 ∷ 1 ∷ 0 ∷ 1 ∷ [])

-- One letter, a cycle of seven states; states 0, 1, 2 and 4 are final.
unfoldable pub cycle : List ℕ
cycle = bytes 7 1 (1 ∷ 23 ∷ 2 ∷ 4 ∷ 8 ∷ 16 ∷ 32 ∷ 64 ∷ 1 ∷ [])

-- The minimal records of two results: the sum of 0* and 1*, and the words that begin with 1.
unfoldable pub star_sum : List ℕ
star_sum = bytes 2 2 (1 ∷ 2 ∷ 2 ∷ 2 ∷ 3 ∷ 0 ∷ [])

unfoldable pub first_one : List ℕ
first_one = bytes 2 2 (1 ∷ 2 ∷ 0 ∷ 2 ∷ 2 ∷ 2 ∷ [])

-- All nonempty words over one letter; the empty word and 0.
unfoldable pub nonempty : List ℕ
nonempty = bytes 2 1 (1 ∷ 2 ∷ 2 ∷ 2 ∷ [])

unfoldable pub empty_or_zero : List ℕ
empty_or_zero = bytes 2 1 (1 ∷ 3 ∷ 2 ∷ 0 ∷ [])

-- ---- the samples

-- 1. X accepts the empty word, 0, 1, 000 and rejects 00, 001.
abbrev language_of_x : List ℕ → List Claim
language_of_x x =
    speaks x (entry 4)
    ∷ accepted x []
    ∷ accepted x (0 ∷ [])
    ∷ accepted x (1 ∷ [])
    ∷ accepted x (0 ∷ 0 ∷ 0 ∷ [])
    ∷ rejected x (0 ∷ 0 ∷ [])
    ∷ rejected x (0 ∷ 0 ∷ 1 ∷ [])
    ∷ []

-- X is X 12's machine, and catalogue record 4.
abbrev sample1 : List Claim
sample1 = language_of_x x12 ++ language_of_x (record_of 4)

-- 2. X 12's machine has minimal record n = 2, I = 1, F = 3, rows 2, 3, 1, 1: 31 bytes.
abbrev sample2 : List Claim
sample2 = gives (minimal x12) x 31 2 ∷ []

-- 3. X against all words: 00.
abbrev sample3 : List Claim
sample3 =
    speaks (record_of 1) (entry 1)
    ∷ differ x12 (record_of 1) (0 ∷ 0 ∷ []) Second
    ∷ differ (record_of 4) (record_of 1) (0 ∷ 0 ∷ []) Second
    ∷ []

-- 4. n = 0: dimension 0; its complement: 1. With each number of letters, 1 to 8.
abbrev sample4 : List Claim
sample4 = join_below 8 (λ k. gives (minimal (no_states (suc k))) (no_states (suc k)) 15 0 ∷ gives (inverse (no_states (suc k))) (one_state (suc k)) (19 + 4 * k) 1 ∷ [])

-- 5. One letter, n = 2, I = F = 3, rows 1, 2: two paths each time, nothing accepted, dimension 0.
abbrev sample5 : List Claim
sample5 = paths two_paths 2 ∷ speaks two_paths (entry 0) ∷ gives (minimal two_paths) (no_states 1) 15 0 ∷ []

-- 6. Sum of 0* and 1* over two letters: dimension 2. Their meet: the empty word only, 1.
abbrev sample6 : List Claim
sample6 =
    gives (sum zero_star one_star) star_sum 31 2
    ∷ gives (meet zero_star one_star) (record_of 2) 23 1
    ∷ speaks (record_of 2) (entry 2)
    ∷ speaks zero_star (star 0)
    ∷ speaks one_star (star 1)
    ∷ []

-- 7. The 7-state cycle for catalogue 5: dimension 3.
abbrev sample7 : List Claim
sample7 = gives (minimal cycle) (record_of 5) 27 3 ∷ speaks cycle (entry 5) ∷ []

-- 8. Words ending in 1, mirrored: words beginning with 1, dimension 2.
abbrev sample8 : List Claim
sample8 = gives (mirror (record_of 3)) first_one 31 2 ∷ speaks first_one beginning ∷ speaks (record_of 3) (entry 3) ∷ []

-- 02, Note 2. All nonempty words over one letter, dimension 2, have as star the empty word and 0, dimension 2.
abbrev case_of_star : List Claim
case_of_star =
    speaks nonempty some
    ∷ gives (minimal nonempty) nonempty 23 2
    ∷ gives (repetition nonempty) empty_or_zero 23 2
    ∷ speaks empty_or_zero at_most_zero
    ∷ []

unfoldable pub samples : List (List Claim)
samples = sample1 ∷ sample2 ∷ sample3 ∷ sample4 ∷ sample5 ∷ sample6 ∷ sample7 ∷ sample8 ∷ case_of_star ∷ []

-- ---- what holds of a table

abbrev pub Every : {X : Type 0} → (X → Type 0) → List X → Type 0
Every P [] = Unit {0}
Every P (x ∷ xs) = P x × Every P xs
