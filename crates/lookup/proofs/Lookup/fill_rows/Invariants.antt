-- `fill_rows`: the groups below g are filled.
use Rattle.std.proofs.Common.{◌≡◌, ℕ, length}
use Rattle.lookup.specs.Lookup.{lookup_size, Gives, Tabled}
use Rattle.lookup.proofs.Lookup.fill_rows.Given as goal

abbrev pub invariant-loop-g : goal.invariant-loop-g
invariant-loop-g g l = (length l.self.entries ≡ lookup_size) × ((M : ℕ → ℕ) → Gives (goal.F-post g l.row) M → Tabled l.g M l.self.entries)
