-- `keeps`: the rows before l are their own products.
use Rattle.std.proofs.Common.{ℕ, ◌<◌, get_or}
use Rattle.lookup.specs.Lookup.{Tabled, Kept}
use Rattle.lookup.proofs.Lookup.keeps.Given as goal

abbrev pub invariant-loop-l : goal.invariant-loop-l
invariant-loop-l l = (M : ℕ → ℕ) → Tabled l.self.groups M l.self.entries → (j : ℕ) → j < l.l → Kept l.self.groups M (get_or l.s j 0)
