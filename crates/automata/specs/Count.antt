-- How many things of any type have a property: a whole number, told by a list that has each of them once.
--   Member x xs      x stands in the list
--   Distinct xs      nothing stands twice in it
--   Count P n        there are n things at which P holds
use Rattle.std.specs.Prelude.{◌≡◌, ◌⊎◌, List, [], ◌∷◌, ℕ, length}

abbrev pub Member : {X : Type 0} → X → List X → Type 0
Member x [] = ⊥
Member x (y ∷ ys) = (x ≡ y) ⊎ Member x ys

abbrev pub Distinct : {X : Type 0} → List X → Type 0
Distinct [] = Unit {0}
Distinct (x ∷ xs) = (Member x xs → ⊥) × Distinct xs

-- Some list of n has each thing at which P holds, once, and no other.
pub record Count {X : Type 0} (P : X → Type 0) (n : ℕ) : Type 0 where
  pub each : List X
  pub size : length each ≡ n
  pub distinct : Distinct each
  pub sound : (x : X) → Member x each → P x
  pub complete : (x : X) → P x → Member x each
