-- When the checks of one or two records have passed: where a service writes, or refuses and names none of them.
use mathlib.Core.Path.{◌≡◌, refl, ap, ◌∙◌}
use mathlib.Core.List.{List}
use Prim.Native.Nat.{ℕ, ◌≤◌}
use native.Mathlib.Omega.{arith}
use Rattle.std.specs.Prelude.{Ok, Err}
use Rattle.record.specs.Record.{max_letters, letters_of, WellFormed}
use Rattle.record.specs.Rules.{Check, Checks, refusal}
use Rattle.record.specs.Outcome.{Outcome, refused, wrote, checked}
use Rattle.record.specs.Claims.{Operands}
use Rattle.record.specs.declared.Rule.{Rule}
use Rattle.record.proofs.Refusals.{good_check}
use Rattle.operands.specs.Operands.{pair_of, after_pair}
use Rattle.operands.proofs.PairLaws.{both_pass, both_passed, pair_named}

-- The letters of a well-formed record.
pub sizes : (bs : List ℕ) → WellFormed bs → (1 ≤ letters_of bs) × (letters_of bs ≤ max_letters)
sizes bs good = let f = (good_check bs good).front in (f.some, f.letters)

-- A refusal that names no record comes after the check.
pub unnamed_checked : (c : Check) (rest : Outcome) (rule : Rule) (k : ℕ) → checked c 1 rest ≡ refused rule 0 k → c ≡ Ok tt
unnamed_checked (Ok u) rest rule k e = refl
unnamed_checked (Err f) rest rule k e = let z : ◌≡◌ {A = ℕ} 1 0 = cc in absurd (omega arith)

module _ (bs cs : List ℕ) (rest : Outcome) where
  pub pair_wrote : (out : List ℕ) → after_pair (pair_of bs cs) rest ≡ wrote out → Operands bs cs
  pair_wrote out e = both_passed bs cs (go (pair_of bs cs) e)
    where
      go : (p : Checks) → after_pair p rest ≡ wrote out → p ≡ Ok (tt {0})
      go (Ok u) q = refl
      go (Err r) q = let z : ◌≡◌ {A = ℕ} 0 1 = cc in absurd (omega arith)

  -- A refusal that names no record comes after the checks.
  pub unnamed_pair : (rule : Rule) (k : ℕ) → after_pair (pair_of bs cs) rest ≡ refused rule 0 k → Operands bs cs
  unnamed_pair rule k e = both_passed bs cs (go (pair_of bs cs) refl e)
    where
      go : (p : Checks) → pair_of bs cs ≡ p → after_pair p rest ≡ refused rule 0 k → p ≡ Ok (tt {0})
      go (Ok u) h q = refl
      go (Err r) h q =
          let z : r.record ≡ 0 = cc in
          absurd (pair_named bs cs r.rule r.place (h ∙ ap (λ x. Err (refusal r.rule x r.place)) z))

  pub pair_passed : Operands bs cs → after_pair (pair_of bs cs) rest ≡ rest
  pair_passed p = ap (λ x. after_pair x rest) (both_pass bs cs p.0 p.1 p.2)
