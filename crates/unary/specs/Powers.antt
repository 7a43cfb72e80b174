-- Words over one letter: there is one of each length.
--   power k                   the word of k letters
--   power_row bs cs k         the row, as bits, that it leads to in two records side by side
--   Powers bs cs w k x        x is that row; no word of up to k letters is accepted by just one record; the trail w has these words
--   Trying bs cs w k x p e    that, and the basis e with the pivots p is spanned by the rows of fewer letters
--   Gives pre post bs cs      each row of the two may be asked for, and what is given is its product with the letter's matrix
--   TriedIn bs cs w k e r     the words of up to k letters were tried and r goes on from there, or r is the answer
use Rattle.std.specs.Prelude.{◌≡◌, Bool, false, List, [], ◌∷◌, ◌++◌, ℕ, zero, suc, ◌+◌, ◌^◌, ◌<◌, ◌≤◌, length, Option}
use Rattle.std.specs.declared.ops.ControlFlow.{ControlFlow}
use Rattle.std.specs.declared.ops.ControlFlow.TheVariants.{Continue, Break}
use Rattle.automata.specs.Xor.{◌⊕◌}
use Rattle.automata.specs.Automaton.{accepts}
use Rattle.automata.specs.Row.{reach}
use Rattle.rows.specs.declared.Row.{Row}
use Rattle.rows.specs.Row.{mask}
use Rattle.rows.specs.Product.{product}
use Rattle.record.specs.Record.{states_of, automaton_of}
use Rattle.hunt.specs.Both.{beside_of}
use Rattle.trail.specs.declared.Step.{Step}
use Rattle.trail.specs.Trail.{trail_size, from_in, by_in}
use Rattle.triangular.specs.Triangular.{Spanned, Triangular}
use Rattle.verdict.specs.declared.Apart.{Apart}
use Rattle.verdict.specs.Judged.{JudgedOf}
use Rattle.verdict.specs.Rows.{both_of, RowOf}
use Rattle.unary.specs.declared.Tried.{Tried}

abbrev pub power : ℕ → List ℕ
power zero = []
power (suc k) = power k ++ (0 ∷ [])

abbrev pub power_row : List ℕ → List ℕ → ℕ → ℕ → Bool
power_row bs cs k = reach (both_of bs cs) (both_of bs cs).initial (power k)

pub record Powers (bs cs : List ℕ) (w : List Step) (k x : ℕ) : Type 0 where
  pub row : RowOf bs cs (power k) x
  pub none : (i : ℕ) → i ≤ k → accepts (automaton_of bs) (power i) ⊕ accepts (automaton_of cs) (power i) ≡ false
  pub from : (r : ℕ) → r < k → from_in w (suc r) ≡ r
  pub by : (r : ℕ) → r < k → by_in w (suc r) ≡ 0
  pub trail : length w ≡ trail_size

pub record Trying (bs cs : List ℕ) (w : List Step) (k x p : ℕ) (e : List ℕ) : Type 0 where
  pub powers : Powers bs cs w k x
  pub shape : Triangular p e
  pub span : Spanned (states_of bs + states_of cs) k (power_row bs cs) p e

abbrev pub Gives : (Row → Type 0) → (Row → Row → Type 0) → List ℕ → List ℕ → Type 0
Gives pre post bs cs = (x : Row) → mask x < 2 ^ (states_of bs + states_of cs) → pre x × ((y : Row) → post x y → mask y ≡ product (states_of bs + states_of cs) (mask x) (beside_of bs cs 0))

abbrev pub TriedIn : List ℕ → List ℕ → List Step → ℕ → List ℕ → ControlFlow (Option Apart) Tried → Type 0
TriedIn bs cs w k e (Continue t) = Trying bs cs w k (mask t.row) (mask t.pivots) e
TriedIn bs cs w k e (Break v) = JudgedOf bs cs w v
