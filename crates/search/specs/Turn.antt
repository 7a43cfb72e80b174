-- One row of the search, tried with every letter.
--   Gives        each letter below a may be asked for, and what is given is the product of the row x by it
--   TurnedIn     what trying row k comes to: the rows found and the row that is next, or the first accepted row
use Rattle.std.specs.Prelude.{◌≡◌, List, ℕ, ◌<◌, ◌≤◌}
use Rattle.std.specs.declared.ops.ControlFlow.{ControlFlow}
use Rattle.std.specs.declared.ops.ControlFlow.TheVariants.{Continue, Break}
use Rattle.rows.specs.declared.Machine.{Machine}
use Rattle.rows.specs.declared.Row.{Row}
use Rattle.rows.specs.Row.{mask}
use Rattle.rows.specs.Product.{product}
use Rattle.trail.specs.declared.Step.{Step}
use Rattle.hunt.specs.declared.Found.{Found}
use Rattle.hunt.specs.Both.{beside_of}
use Rattle.hunt.specs.Hunt.{HuntingIn, Stopped}
use Rattle.search.specs.declared.Turn.{Turn}

abbrev pub Gives : (ℕ → Type 0) → (ℕ → Row → Type 0) → ℕ → ℕ → ℕ → (ℕ → ℕ → ℕ) → Type 0
Gives pre post a n x M = (l : ℕ) → l < a → pre l × ((y : Row) → post l y → mask y ≡ product n x (M l))

abbrev pub TurnedIn : ℕ → List ℕ → List ℕ → Machine → List ℕ → List Step → ℕ → ControlFlow Found Turn → Type 0
TurnedIn σ bs cs m b w k (Continue t) = HuntingIn σ bs cs m b w t.size t.next 0 × (t.next ≤ t.size.count) × (k < t.next)
TurnedIn σ bs cs m b w k (Break x) = Stopped m.letters (beside_of bs cs) m.states (mask m.initial) (mask m.finals) w x.number (mask x.row)
