-- From what a service ensures of one call to what a sample says of that call.
use mathlib.Core.Path.{◌≡◌, ap, ap₂, ◌∙◌}
use mathlib.Core.List.{List}
use Prim.Native.Nat.{ℕ}
use lib.ListN.{length}
use Rattle.automata.specs.MinimalOf.{dimension_of}
use Rattle.record.specs.Record.{letters_of, automaton_of}
use Rattle.record.specs.Outcome.{answer_of, buffer_of}
use Rattle.std.specs.Prelude.{Result}
use Rattle.record.specs.declared.Refusal.{Refusal}
use Rattle.minimal.specs.Minimal.{minimal_outcome, minimised_as}
use Rattle.minimal.specs.declared.Minimised.{Minimised}
use Rattle.samples.specs.Claims.{Task, minimal}
use Rattle.samples.specs.Answers.{outcome_of, Served, Wrote, WroteMinimal}

pub wrote_call : (t : Task) (r : List ℕ) (d : ℕ) → Served t r d → (buf exit : List ℕ) (w : Result ℕ Refusal)
    → w ≡ answer_of (outcome_of t (length buf)) → exit ≡ buffer_of (outcome_of t (length buf)) buf → Wrote r buf w exit
wrote_call t r d s buf exit w answer buffer = (answer ∙ ap answer_of (s.bytes (length buf)), buffer ∙ ap (λ o. buffer_of o buf) (s.bytes (length buf)))

pub minimal_call : (bs r : List ℕ) (d : ℕ) → Served (minimal bs) r d → (buf exit : List ℕ) (w : Result Minimised Refusal)
    → w ≡ minimised_as (dimension_of (letters_of bs) (automaton_of bs)) (answer_of (minimal_outcome bs (length buf))) → exit ≡ buffer_of (minimal_outcome bs (length buf)) buf → WroteMinimal r d buf w exit
minimal_call bs r d s buf exit w answer buffer =
    (answer ∙ ap₂ (λ k o. minimised_as k (answer_of o)) s.dimension (s.bytes (length buf)), buffer ∙ ap (λ o. buffer_of o buf) (s.bytes (length buf)))
