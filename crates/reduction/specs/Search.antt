-- The breadth-first search for basis rows, before the pair (k, l): row k by letter l. First in, first out.
-- R are the d rows found, with their reduced basis P, E and C; row r is row `from r` times letter `by r`; S x i names the rows that
-- make row i times letter x.
use Rattle.std.specs.Prelude.{◌≡◌, Bool, true, false, ◌⊎◌, ℕ, suc, ◌<◌, ◌≤◌}
use Rattle.automata.specs.Xor.{comb}
use Rattle.automata.specs.Automaton.{Automaton}
use Rattle.automata.specs.Row.{times}
use Rattle.automata.specs.Tree.{Done}
use Rattle.elimination.specs.Echelon.{Echelon}

pub record Search (a : ℕ) (A : Automaton) (d k l : ℕ) (P : ℕ → Bool) (R E C : ℕ → ℕ → Bool) (from by : ℕ → ℕ) (S : ℕ → ℕ → ℕ → Bool) : Type 0 where
  pub basis : Echelon A.states d P R E C
  pub root : 0 < d → (j : ℕ) → R 0 j ≡ A.initial j
  pub empty : d ≡ 0 → (j : ℕ) → A.initial j ≡ false
  pub parent : (r : ℕ) → 0 < r → r < d → from r < r
  pub letter : (r : ℕ) → 0 < r → r < d → by r < a
  pub child : (r : ℕ) → 0 < r → r < d → (j : ℕ) → R r j ≡ times A (by r) (R (from r)) j
  pub order : (i r : ℕ) → 0 < i → i < r → r < d → Done (from r) (by r) (from i) (by i)
  pub before : (r : ℕ) → 0 < r → r < d → Done k l (from r) (by r)
  pub rows : (x i : ℕ) → x < a → i < d → Done k l i x → (j : ℕ) → times A x (R i) j ≡ comb d (S x i) R j
  pub short : (x i r : ℕ) → x < a → i < d → Done k l i x → d ≤ r → S x i r ≡ false
  pub early : (x i r : ℕ) → x < a → i < d → Done k l i x → r < d → S x i r ≡ true → (r ≡ 0) ⊎ Done i (suc x) (from r) (by r)
