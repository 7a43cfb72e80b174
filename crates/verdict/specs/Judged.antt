-- What a comparison answers, with the trail w of the rows found.
--   Judged, JudgedOf    the answer for two automata, and for two records
--   Undecided           two records side by side whose machine is m; both accept the empty word, or neither; g is the first one's final column
use Rattle.std.specs.Prelude.{◌≡◌, false, List, ℕ, length, Option, None, Some}
use Rattle.std.proofs.Math.Option.{none, some}
use Rattle.automata.specs.Automaton.{Automaton, accepts}
use Rattle.automata.specs.FirstDifference.{first_difference}
use Rattle.rows.specs.declared.Machine.{Machine}
use Rattle.rows.specs.declared.Row.{Row}
use Rattle.rows.specs.Row.{mask}
use Rattle.trail.specs.declared.Step.{Step}
use Rattle.trail.specs.Trail.{trail_size, word_in, Traced}
use Rattle.record.specs.Bytes.{number}
use Rattle.record.specs.Record.{row_bytes, final_at, letters_of, automaton_of}
use Rattle.hunt.specs.Both.{Paired}
use Rattle.hunt.specs.Hunt.{shared}
use Rattle.verdict.specs.declared.Apart.{Apart}
use Rattle.verdict.specs.declared.Side.{Side}
use Rattle.verdict.specs.Side.{side_of}

-- The first difference is the word of row r; the side s accepts it.
pub record Found (a : ℕ) (A B : Automaton) (w : List Step) (r : ℕ) (s : Side) : Type 0 where
  pub word : first_difference a A B ≡ some (word_in w r)
  pub side : s ≡ side_of (accepts A (word_in w r))
  pub traced : Traced a r w

abbrev pub Judged : ℕ → Automaton → Automaton → List Step → Option Apart → Type 0
Judged a A B w None = first_difference a A B ≡ none
Judged a A B w (Some x) = Found a A B w x.row x.side

abbrev pub JudgedOf : List ℕ → List ℕ → List Step → Option Apart → Type 0
JudgedOf bs cs w r = Judged (letters_of bs) (automaton_of bs) (automaton_of cs) w r

pub record Undecided (bs cs : List ℕ) (m : Machine) (g : Row) (w : List Step) : Type 0 where
  pub paired : Paired bs cs m
  pub trail : length w ≡ trail_size
  pub empty : shared m.states (mask m.initial) (mask m.finals) ≡ false
  pub column : mask g ≡ number row_bytes bs final_at
