-- `put_group`: the rows before i have doubled the entries.
use Rattle.std.proofs.Common.{◌≡◌, ℕ, length}
use Rattle.lookup.specs.Lookup.{lookup_size, Gives}
use Rattle.lookup.proofs.LookupLaws.{Doubling}
use Rattle.lookup.proofs.put_group.Given as goal

abbrev pub invariant-loop-i : goal.invariant-loop-i
invariant-loop-i g l = (length l.tab ≡ lookup_size) × ((M : ℕ → ℕ) → Gives (goal.F-post g l.row) M → Doubling l.g M l.i l.fn.tab l.tab)
