-- Facts of every index below a bound.
use mathlib.Core.Path.{◌≡◌, sym, subst}
use mathlib.Core.Bool.{Bool, true, false}
use mathlib.Core.Logic.{◌⊎◌, inl, inr}
use Prim.Native.Nat.{ℕ, zero, suc, ◌<◌}
use native.Mathlib.Nat.{not-suc-le-zero}
use native.Mathlib.Decide.{ℕ_discrete}
use native.Mathlib.Omega.{arith}
use Rattle.automata.proofs.Xor.{bool_cases}

-- A fact of every index below suc m, from those below m and m itself.
pub up_to : {Q : ℕ → Type 0} (m : ℕ) → ((i : ℕ) → i < m → Q i) → Q m → (i : ℕ) → i < suc m → Q i
up_to {Q} m old new i h = go (ℕ_discrete i m)
  where
    go : Dec (i ≡ m) → Q i
    go (yes e) = subst Q (sym e) new
    go (no e) = old i (omega (arith, e))

-- A place below m where f holds, if there is one.
pub find : (m : ℕ) (f : ℕ → Bool) → ((p : ℕ) × (p < m) × (f p ≡ true)) ⊎ ((i : ℕ) → i < m → f i ≡ false)
find zero f = inr (λ i h. absurd (not-suc-le-zero h))
find (suc m) f = go (find m f) (bool_cases (f m))
  where
    go : ((p : ℕ) × (p < m) × (f p ≡ true)) ⊎ ((i : ℕ) → i < m → f i ≡ false) → (f m ≡ true) ⊎ (f m ≡ false) → ((p : ℕ) × (p < suc m) × (f p ≡ true)) ⊎ ((i : ℕ) → i < suc m → f i ≡ false)
    go (inl t) e = inl (t.0, omega arith, t.2)
    go (inr n) (inl e) = inl (m, omega arith, e)
    go (inr n) (inr e) = inr (up_to m n e)
