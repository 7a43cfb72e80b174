-- `stripes`: each number of the list is the mask of its level, by computing.
use mathlib.Core.Path.{◌≡◌, refl}
use mathlib.Core.List.{[], ◌∷◌}
use Prim.Native.Nat.{ℕ, zero, suc, ◌<◌}
use native.Mathlib.Omega.{arith}
use lib.ListN.{get_or}
use Rattle.rows.specs.Row.{levels, mask, stripes}
use Rattle.rows.proofs.stripes.Goals as goal

listed : (b : ℕ) → b < levels → get_or (stripes 0 ∷ stripes 1 ∷ stripes 2 ∷ stripes 3 ∷ stripes 4 ∷ stripes 5 ∷ []) b 0 ≡ stripes b
listed zero h = refl
listed (suc zero) h = refl
listed (suc (suc zero)) h = refl
listed (suc (suc (suc zero))) h = refl
listed (suc (suc (suc (suc zero)))) h = refl
listed (suc (suc (suc (suc (suc zero))))) h = refl
listed (suc (suc (suc (suc (suc (suc b)))))) h = absurd (omega arith)

pub returns : goal.returns
unfolding mask stripes
returns c = listed c.args.b c.requires
