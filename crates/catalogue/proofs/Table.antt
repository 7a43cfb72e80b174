-- A rule of a table, proved at all of its entries at once: by one test that antt computes, or by a list of proofs.
use mathlib.Core.Path.{◌≡◌, refl, sym, ap, subst, ◌∙◌}
use mathlib.Core.List.{List, [], ◌∷◌}
use Prim.Native.Nat.{ℕ, zero, suc, ◌+◌, ◌<◌}
use native.Mathlib.Nat.{add-zero, zero-add, add-suc, suc-add, mul-one, le_of_suc-le-suc, not-suc-le-zero}
use native.Mathlib.Omega.{arith}
use lib.ListN.{get_or}
use Rattle.automata.specs.WordList.{join_below}
use Rattle.automata.proofs.Fields.{join_at}

-- ---- tests

-- The values of f below n.
abbrev pub values_below : {X : Type 0} → ℕ → (ℕ → X) → List X
values_below n f = join_below n (λ j. f j ∷ [])

pub value_at : {X : Type 0} (n : ℕ) (f : ℕ → X) (x : X) (j : ℕ) → j < n → get_or (values_below n f) j x ≡ f j
value_at n f x j h =
    ap (λ k. get_or (values_below n f) k x) (sym (add-zero j) ∙ ap (λ k. k + 0) (sym (mul-one j)))
    ∙ join_at n 1 (λ j. f j ∷ []) (λ j p. refl) x j 0 h (omega arith)

-- Functions with the same table agree at each entry.
pub each : {X : Type 0} (n : ℕ) (f g : ℕ → X) → values_below n f ≡ values_below n g → (j : ℕ) → j < n → f j ≡ g j
each n f g e j h = sym (value_at n f (f j) j h) ∙ ap (λ xs. get_or xs j (f j)) e ∙ value_at n g (f j) j h

-- ---- lists of proofs

-- P holds at i, at i + 1, and so on, at n numbers.
abbrev pub All : ℕ → ℕ → (ℕ → Type 0) → Type 0
All i zero P = Unit {0}
All i (suc n) P = P i × All (suc i) n P

all_from : (P : ℕ → Type 0) (i n : ℕ) → All i n P → (k : ℕ) → k < n → P (i + k)
all_from P i zero ps k h = absurd (not-suc-le-zero h)
all_from P i (suc n) ps zero h = subst P (sym (add-zero i)) ps.0
all_from P i (suc n) ps (suc k) h = subst P (suc-add i k ∙ sym (add-suc i k)) (all_from P (suc i) n ps.1 k (le_of_suc-le-suc h))

pub all_at : (P : ℕ → Type 0) (n : ℕ) → All 0 n P → (k : ℕ) → k < n → P k
all_at P n ps k h = subst P (zero-add k) (all_from P 0 n ps k h)

-- The six entries of the catalogue.
pub six : (P : ℕ → Type 0) → P 0 → P 1 → P 2 → P 3 → P 4 → P 5 → (j : ℕ) → j < 6 → P j
six P a b c d e f = all_at P 6 (a, (b, (c, (d, (e, (f, tt))))))
