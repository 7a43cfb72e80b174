-- Acceptance is linear: rows of states, a row times a letter's matrix, and what is accepted from a row.
use mathlib.Core.Path.{◌≡◌, refl, sym, ap, ◌∙◌}
use mathlib.Core.Bool.{Bool, false, ◌&&◌, cond, and-true}
use mathlib.Core.List.{List, [], ◌∷◌, ◌++◌, append-nil}
use Prim.Native.Nat.{ℕ, ◌<◌, ◌≤◌}
use native.Mathlib.Omega.{arith}
use native.Mathlib.Decide.{dec_le}
use Rattle.automata.specs.Xor.{xor_below, comb}
use Rattle.automata.specs.Automaton.{Automaton, paths_from, accepts}
use Rattle.automata.specs.Language.{Language, Same}
use Rattle.automata.specs.Word.{Over}
use Rattle.automata.specs.Dimension.{Dependent, quotients, Free}
use Rattle.automata.specs.Row.{accepts_from, row_accepts, times, reach}
use Rattle.automata.proofs.Xor.{xor_cong, xor_none, xor_matrix, odd_sum, odd_when}
use Rattle.automata.proofs.Dependence.{dependent, not_both}
use Rattle.automata.proofs.Shortlex.{over_append}

pub from_nil : (A : Automaton) (i : ℕ) → accepts_from A [] i ≡ A.final i
from_nil A i = odd_when (A.final i) 1 ∙ and-true (A.final i)

pub from_cons : (A : Automaton) (l : ℕ) (w : List ℕ) (i : ℕ) → accepts_from A (l ∷ w) i ≡ xor_below A.states (λ j. A.step l i j && accepts_from A w j)
from_cons A l w i = odd_sum A.states (λ j. cond (A.step l i j) (paths_from A w j) 0) ∙ xor_cong A.states (λ j p. odd_when (A.step l i j) (paths_from A w j))

pub accepts_row : (A : Automaton) (w : List ℕ) → accepts A w ≡ row_accepts A A.initial w
accepts_row A w = odd_sum A.states (λ i. cond (A.initial i) (paths_from A w i) 0) ∙ xor_cong A.states (λ i p. odd_when (A.initial i) (paths_from A w i))

row_cons : (A : Automaton) (r : ℕ → Bool) (l : ℕ) (w : List ℕ) → row_accepts A r (l ∷ w) ≡ row_accepts A (times A l r) w
row_cons A r l w =
    xor_cong A.states (λ i p. ap (λ b. r i && b) (from_cons A l w i))
    ∙ xor_matrix A.states A.states r (A.step l) (accepts_from A w)

pub reach_append : (A : Automaton) (r : ℕ → Bool) (u v : List ℕ) → reach A r (u ++ v) ≡ reach A (reach A r u) v
reach_append A r [] v = refl
reach_append A r (l ∷ u) v = reach_append A (times A l r) u v

pub row_append : (A : Automaton) (r : ℕ → Bool) (u v : List ℕ) → row_accepts A r (u ++ v) ≡ row_accepts A (reach A r u) v
row_append A r [] v = refl
row_append A r (l ∷ u) v = row_cons A r l (u ++ v) ∙ row_append A (times A l r) u v

pub accepts_append : (A : Automaton) (u v : List ℕ) → accepts A (u ++ v) ≡ row_accepts A (reach A A.initial u) v
accepts_append A u v = accepts_row A (u ++ v) ∙ row_append A A.initial u v

-- A word is accepted by the row that it reaches.
pub accepts_reach : (A : Automaton) (w : List ℕ) → accepts A w ≡ xor_below A.states (λ j. reach A A.initial w j && A.final j)
accepts_reach A w =
    ap (accepts A) (sym (append-nil w)) ∙ accepts_append A w []
    ∙ xor_cong A.states (λ j p. ap (λ b. reach A A.initial w j && b) (from_nil A j))

-- Only the states of a row are read.
pub reach_cong : (A : Automaton) (r s : ℕ → Bool) → ((i : ℕ) → i < A.states → r i ≡ s i) → (w : List ℕ) (j : ℕ) → j < A.states → reach A r w j ≡ reach A s w j
reach_cong A r s h [] j p = h j p
reach_cong A r s h (l ∷ w) j p = reach_cong A (times A l r) (times A l s) (λ i q. xor_cong A.states (λ x g. ap (λ b. b && A.step l x i) (h x g))) w j p

-- From no state none is reached.
pub reach_none : (A : Automaton) (r : ℕ → Bool) → ((i : ℕ) → i < A.states → r i ≡ false) → (w : List ℕ) (j : ℕ) → j < A.states → reach A r w j ≡ false
reach_none A r h [] j p = h j p
reach_none A r h (l ∷ w) j p = reach_none A (times A l r) (λ i q. xor_none A.states (λ x g. ap (λ b. b && A.step l x i) (h x g))) w j p

-- Rows that cancel below the states accept nothing together.
rows_cancel : (A : Automaton) (m : ℕ) (c : ℕ → Bool) (f : ℕ → ℕ → Bool) → ((j : ℕ) → j < A.states → comb m c f j ≡ false)
    → (v : List ℕ) → xor_below m (λ i. c i && row_accepts A (f i) v) ≡ false
rows_cancel A m c f h v =
    xor_matrix m A.states c f (accepts_from A v)
    ∙ xor_none A.states (λ j p. ap (λ b. b && accepts_from A v j) (h j p))

-- More words than states have dependent quotients.
too_many : (A : Automaton) (L : Language) (a m : ℕ) → Same a L (accepts A) → A.states < m → (u : ℕ → List ℕ) → ((i : ℕ) → i < m → Over a (u i))
    → Dependent (Over a) m (quotients L u)
too_many A L a m same h u ok =
    let d = dependent A.states m h (λ i. reach A A.initial (u i)) in
    record {
      coef = d.coef;
      place = d.place;
      below = d.below;
      used = d.used;
      cancels = λ v q.
          xor_cong m (λ i p. ap (λ b. d.coef i && b) (same (u i ++ v) (over_append a (u i) v (ok i p) q) ∙ accepts_append A (u i) v))
          ∙ rows_cancel A m d.coef (λ i. reach A A.initial (u i)) d.cancels v;
    }

-- An automaton has at least as many states as its language has independent quotients.
pub states_bound : (A : Automaton) (L : Language) (a m : ℕ) → Same a L (accepts A) → Free a L m → m ≤ A.states
states_bound A L a m same r = go (dec_le m A.states)
  where
    go : Dec (m ≤ A.states) → m ≤ A.states
    go (yes h) = h
    go (no n) = absurd (not_both (too_many A L a m same (omega arith) r.word r.over) r.independent)
