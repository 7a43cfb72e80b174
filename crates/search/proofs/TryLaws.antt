-- The letters of one row, tried in turn: what holds before letter l.
use mathlib.Core.Path.{◌≡◌, sym, subst}
use mathlib.Core.List.{List}
use Prim.Native.Nat.{ℕ, ◌+◌, ◌^◌, ◌<◌, ◌≤◌}
use lib.ListN.{length}
use Rattle.rows.specs.declared.Machine.{Machine}
use Rattle.rows.specs.Row.{mask}
use Rattle.basis.specs.Basis.{cell}
use Rattle.elimination.specs.declared.Size.{Size}
use Rattle.trail.specs.declared.Step.{Step}
use Rattle.reduction.proofs.TableSearch.{found_low}
use Rattle.record.specs.Record.{states_of}
use Rattle.hunt.specs.Both.{beside_of, Paired}
use Rattle.hunt.specs.Hunt.{Hunting, HuntingIn}

-- The letters below l are done, from d rows on, and no row found is accepted; row k is as in b₀, and the basis as long.
abbrev pub Trying : List ℕ → List ℕ → Machine → ℕ → List ℕ → List ℕ → List Step → ℕ → ℕ → ℕ → Size → Type 0
Trying bs cs m σ b₀ b w k d l r = Hunting σ m.letters (beside_of bs cs) m.states (mask m.initial) (mask m.finals) b w r.count k l (mask r.pivots) (mask r.used) × (d ≤ r.count) × (cell σ b 1 k ≡ cell σ b₀ 1 k) × (length b ≡ length b₀)

-- A row found has no bit above the states.
pub found_below : (σ a : ℕ) (M : ℕ → ℕ → ℕ) (n i f : ℕ) (b : List ℕ) (w : List Step) (d k l p v x : ℕ) → Hunting σ a M n i f b w d k l p v → k < d → x ≡ cell σ b 1 k → x < 2 ^ n
found_below σ a M n i f b w d k l p v x H h e = subst (λ y. y < 2 ^ n) (sym e) (found_low σ n d p H.coef b H.search.basis k h)

-- A row found has no bit above the states of the two records.
pub low : (bs cs : List ℕ) (m : Machine) (σ : ℕ) (b : List ℕ) (w : List Step) (s : Size) (k l x : ℕ) → Paired bs cs m → HuntingIn σ bs cs m b w s k l → k < s.count → x ≡ cell σ b 1 k → x < 2 ^ (states_of bs + states_of cs)
low bs cs m σ b w s k l x P H h e = subst (λ n. x < 2 ^ n) P.states (found_below σ m.letters (beside_of bs cs) m.states (mask m.initial) (mask m.finals) b w s.count k l (mask s.pivots) (mask s.used) x H h e)
