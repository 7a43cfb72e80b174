-- The rows over one letter tried in turn, and the basis that they are inserted in.
use mathlib.Core.Path.{◌≡◌, sym, ap, ◌∙◌}
use mathlib.Core.Bool.{Bool, true}
use mathlib.Core.List.{List}
use mathlib.Core.Option.{none}
use Prim.Native.Nat.{ℕ, suc, ◌+◌, ◌^◌, ◌<◌, ◌≤◌}
use native.Mathlib.Nat.{lt_of_lt_of_le}
use native.Mathlib.Numerals.{add-one}
use borrow.Author.Tests.{eqb-true}
use lib.Dec.{eqb}
use lib.ListN.{length}
use lib.Pow.{pow_mono}
use Rattle.automata.specs.Mask.{bit_of}
use Rattle.automata.specs.FirstDifference.{first_difference}
use Rattle.rows.specs.declared.Machine.{Machine}
use Rattle.rows.specs.declared.Row.{Row}
use Rattle.rows.specs.Row.{mask}
use Rattle.record.specs.Record.{states_of, letters_of, automaton_of}
use Rattle.hunt.specs.Both.{Paired}
use Rattle.hunt.proofs.BothLaws.{paired_initial}
use Rattle.triangular.specs.Triangular.{Inserted}
use Rattle.triangular.proofs.SpanLaws.{span_own, spanned_more, spanned_start}
use Rattle.trail.specs.declared.Step.{Step}
use Rattle.trail.specs.Trail.{trail_size}
use Rattle.verdict.specs.Judged.{Undecided}
use Rattle.verdict.proofs.RowLaws.{row_start, row_below}
use Rattle.unary.specs.Powers.{power, power_row, Powers, Trying}
use Rattle.unary.proofs.PowerLaws.{powers_spanned}

module _ (bs cs : List ℕ) (m : Machine) (P : Paired bs cs m) where
  abbrev N : ℕ
  N = states_of bs + states_of cs

  abbrev Y : ℕ → ℕ → Bool
  Y = power_row bs cs

  -- A row has its place in a basis for as many states.
  pub row_fits : (w : List Step) (e : List ℕ) (k x n : ℕ) → Powers bs cs w k x → m.states ≤ n → x < 2 ^ n
  row_fits w e k x n R h = lt_of_lt_of_le (row_below bs cs m P (power k) x R.row) (pow_mono h)

  pub initial_fits : (n : ℕ) → m.states ≤ n → mask m.initial < 2 ^ n
  initial_fits n h = lt_of_lt_of_le (paired_initial bs cs m P) (pow_mono h)

  -- The initial row is inserted in an empty basis.
  pub trying_start : (w : List Step) (e f : List ℕ) (z p : ℕ) → Inserted 0 e (mask m.initial) p f → Powers bs cs w 1 z → Trying bs cs w 1 z p f
  trying_start w e f z p I R = record { powers = R; shape = I.shape; span = I.span N 1 Y (spanned_start N 1 Y e) (span_own N 0 Y (mask m.initial) (row_start bs cs m P).bits) }

  module _ (w : List Step) (k x p : ℕ) (e : List ℕ) (T : Trying bs cs w k x p e) (r : ℕ) (f : List ℕ) (I : Inserted p e x r f) where
    -- Its row is inserted, and one letter more is tried.
    pub trying_next : (w' : List Step) (y : ℕ) → Powers bs cs w' (k + 1) y → Trying bs cs w' (k + 1) y r f
    trying_next w' y R = record { powers = R; shape = I.shape; span = rw add-one (I.span N (suc k) Y (spanned_more N k Y p e T.span) (span_own N k Y x T.powers.row.bits)) }

    -- Its row is an xor of those before it.
    pub trying_old : m.letters ≡ 1 → r ≡ p → first_difference (letters_of bs) (automaton_of bs) (automaton_of cs) ≡ none
    trying_old one q = powers_spanned bs cs m P one w k x T.powers (I.old q N k Y T.span)

  -- The row of one letter is the initial row.
  pub initial_again : (w : List Step) (z : ℕ) → Powers bs cs w 1 z → m.letters ≡ 1 → z ≡ mask m.initial → first_difference (letters_of bs) (automaton_of bs) (automaton_of cs) ≡ none
  initial_again w z R one q = powers_spanned bs cs m P one w 1 z R (span_own N 0 Y z (λ j h. ap (λ v. bit_of v j) q ∙ (row_start bs cs m P).bits j h))

-- The trail may change, as long as it is one.
pub still_undecided : (bs cs : List ℕ) (m : Machine) (g : Row) (w w' : List Step) → Undecided bs cs m g w → length w' ≡ trail_size → Undecided bs cs m g w'
still_undecided bs cs m g w w' U e = record { paired = U.paired; trail = e; empty = U.empty; column = U.column }

-- Rows that are equal stand for one number.
pub same_row : (x y : Row) (r : Bool) → r ≡ eqb x.bits y.bits → r ≡ true → mask x ≡ mask y
unfolding mask
same_row x y r e t = eqb-true x.bits y.bits (sym e ∙ t)
