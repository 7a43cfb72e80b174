-- Letters that a record lacks (02, Note 5): they lead nowhere in its machine, and its dimension over more letters is its own.
use mathlib.Core.Path.{◌≡◌, refl, ap, ap₂, ◌∙◌}
use mathlib.Core.List.{List}
use Prim.Native.Nat.{ℕ, zero, suc, ◌+◌, ◌*◌, ◌≤◌}
use native.Mathlib.Nat.{mul-le-mul_right}
use native.Mathlib.Omega.{arith}
use lib.ListN.{length, get_or-eq_default}
use Rattle.automata.specs.Automaton.{accepts}
use Rattle.automata.specs.Dimension.{IsDimension}
use Rattle.automata.specs.Mask.{bit_of}
use Rattle.automata.proofs.Letters.{Lacks, accepts_widened, lacks_restriction, dimension_more}
use Rattle.rows.proofs.BitLaws.{bit_none}
use Rattle.record.specs.Bytes.{number}
use Rattle.record.specs.Record.{row_bytes, rows_at, states_of, letters_of, WellFormed, automaton_of, language_of, record_accepts, machine_of}
use Rattle.record.specs.Claims.{HasDimension}
use Rattle.record.proofs.Refusals.{good_check}

-- ---- past the end of a record zeros are read

pub number_past : (w : ℕ) (bs : List ℕ) (p : ℕ) → length bs ≤ p → number w bs p ≡ 0
unfolding number
number_past zero bs p h = refl
number_past (suc w) bs p h = ap₂ (λ x y. x + 256 * y) (get_or-eq_default bs 0 h) (number_past w bs (p + 1) (omega arith))

-- A record's own letters end where the record ends.
record_lacks : (bs : List ℕ) → WellFormed bs → Lacks (letters_of bs) (automaton_of bs)
record_lacks bs good l i j h hi hj = ap (λ m. bit_of m j) (number_past row_bytes bs (rows_at + row_bytes * (l * states_of bs + i)) past) ∙ bit_none j
  where
    past : length bs ≤ rows_at + row_bytes * (l * states_of bs + i)
    past = omega (arith, (good_check bs good).whole, mul-le-mul_right (states_of bs) h)

-- So its machine accepts no word with a letter that it lacks.
pub record_words : (bs : List ℕ) → WellFormed bs → (w : List ℕ) → language_of bs w ≡ record_accepts bs w
record_words bs good = lacks_restriction (letters_of bs) (automaton_of bs) (record_lacks bs good)

pub machine_words : (bs w : List ℕ) → accepts (machine_of bs) w ≡ record_accepts bs w
machine_words bs w = accepts_widened (letters_of bs) (automaton_of bs) w

-- ---- the dimension over more letters

pub dimension_over : (bs : List ℕ) (a d : ℕ) → letters_of bs ≤ a → HasDimension bs d → IsDimension a (record_accepts bs) d
dimension_over bs a d h D = dimension_more (letters_of bs) a h (language_of bs) d D
