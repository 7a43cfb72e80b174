-- Refusal 9 never comes: it is in none of the lists that the exports promise.
use mathlib.Core.Path.{◌≡◌, refl, subst}
use mathlib.Core.List.{List, [], ◌∷◌}
use Prim.Native.Nat.{ℕ}
use Rattle.automata.specs.Count.{Member}
use Rattle.automata.proofs.WordList.{all_of_lem}
use Rattle.record.proofs.Numbers.{lacks, not_member, check_numbers}
use Rattle.replies.specs.declared.Reply.{Reply}
use Rattle.replies.specs.Reply.{NumberIn}
use Rattle.nxa.proofs.Granted.{rewrite_numbers, minimal_numbers, mark_numbers, catalogue_numbers}
use Rattle.nxa.proofs.Compared.{compare_numbers}
use Rattle.nxa.proofs.Operations.{sum_numbers, product_numbers, meet_numbers, complement_numbers, mirror_numbers, star_numbers}

-- The refusals of each export. Check and test have those of the record check.
abbrev pub refusals : List (List ℕ)
refusals =
    check_numbers
    ∷ rewrite_numbers
    ∷ minimal_numbers
    ∷ compare_numbers
    ∷ sum_numbers
    ∷ meet_numbers
    ∷ product_numbers
    ∷ complement_numbers
    ∷ mirror_numbers
    ∷ star_numbers
    ∷ catalogue_numbers
    ∷ mark_numbers
    ∷ []

pub no_nine : (ns : List ℕ) → Member ns refusals → (r : Reply) → NumberIn (0 ∷ ns) r → r.number ≡ 9 → ⊥
no_nine ns m r h e =
    not_member (0 ∷ ns) 9 (all_of_lem (λ xs. lacks (0 ∷ xs) 9) refusals refl ns m) (subst (λ k. Member k (0 ∷ ns)) e h)
