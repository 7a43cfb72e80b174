-- `times`: the groups passed have given their part of the product, and z has the bits to come.
use Rattle.std.proofs.Common.{◌≡◌, ℕ, ◌*◌, ◌/◌, ◌^◌}
use Rattle.rows.specs.Product.{product}
use Rattle.lookup.specs.Lookup.{Tabled}
use Rattle.lookup.proofs.Lookup.times.Given as goal

abbrev pub invariant-loop-g : goal.invariant-loop-g
invariant-loop-g l = (l.z ≡ l.initial.z / 2 ^ (l.g * 4)) × ((M : ℕ → ℕ) → Tabled l.self.groups M l.self.entries → l.y ≡ product (l.g * 4) l.initial.z M)
