-- The table holds, and so do the facts on the services that it comes to: one computed test, and one law for each of the two.
use mathlib.Core.Path.{◌≡◌}
use mathlib.Core.Bool.{true}
use mathlib.Core.List.{List, [], ◌∷◌}
use Rattle.automata.proofs.Span.{and_parts}
use Rattle.samples.specs.Claims.{Claim, Means}
use Rattle.samples.specs.Table.{samples, Every}
use Rattle.samples.specs.Answers.{Returned}
use Rattle.samples.proofs.Data.{Passed, every, every_true}
use Rattle.samples.proofs.Test.{tests, passing, table_passes}
use Rattle.samples.proofs.Meaning.{holds}
use Rattle.samples.proofs.Services.{returned}

-- A law for each claim that passes its tests holds at each entry of a table that passes.
module _ (P : Claim → Type 0) (law : (c : Claim) → Passed (tests c) → P c) where
  each : (cs : List Claim) → passing cs ≡ true → Every P cs
  each [] e = tt
  each (c ∷ cs) e = let t = and_parts (every (tests c)) (passing cs) e in (law c (every_true (tests c) t.0), each cs t.1)

  all : (ss : List (List Claim)) → Every (λ s. passing s ≡ true) ss → Every (Every P) ss
  all [] e = tt
  all (s ∷ ss) e = (each s e.0, all ss e.1)

pub samples_hold : Every (Every Means) samples
samples_hold = all Means holds samples table_passes

pub samples_returned : Every (Every Returned) samples
samples_returned = all Returned returned samples table_passes
