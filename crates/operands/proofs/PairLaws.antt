-- The checks of two records, case by case; and what both have passed.
use mathlib.Core.Path.{◌≡◌, refl, sym, ap, ◌∙◌}
use mathlib.Core.Bool.{Bool, true, false, cond}
use mathlib.Core.List.{List}
use Prim.Native.Nat.{ℕ, ◌<◌}
use native.Mathlib.Omega.{arith}
use borrow.Author.Tests.{eq-eqb, ne_eqb, eqb-true}
use lib.Dec.{eqb}
use Rattle.record.specs.Record.{letters_of, check_of, WellFormed}
use Rattle.std.specs.Prelude.{Ok, Err}
use Rattle.record.specs.Rules.{number_of, Check, Checks, fault, refusal, refusal_of}
use Rattle.record.specs.declared.lent.Pair.{Pair}
use Rattle.record.specs.declared.Rule.{Rule}
use Rattle.record.specs.declared.Rule.TheVariants.{UnlikeLetters}
use Rattle.record.specs.declared.Fault.{Fault}
use Rattle.record.specs.declared.Refusal.{Refusal}
use Rattle.record.specs.Outcome.{Outcome, refused}
use Rattle.record.specs.Claims.{Operands}
use Rattle.record.proofs.Refusals.{same_error}
use Rattle.operands.specs.Operands.{named, pair_of, after_pair}

told_named : (c : Check) (which : ℕ) (rest : Checks) {r : Refusal} → Err r ≡ refusal_of c which → Err r ≡ named c which rest
told_named (Ok u) which rest e = let z : ◌≡◌ {A = ℕ} 0 1 = cc in absurd (omega arith)
told_named (Err f) which rest e = e

module _ (bs cs : List ℕ) where
  pub first_met : {f : Fault} → check_of bs ≡ Err f → pair_of bs cs ≡ Err (refusal f.rule 1 f.place)
  unfolding pair_of
  first_met e = rw e

  pub first_told : {r : Refusal} → Err r ≡ refusal_of (check_of bs) 1 → Err r ≡ pair_of bs cs
  unfolding pair_of
  first_told e = told_named (check_of bs) 1 _ e

  module _ (one : WellFormed bs) where
    pub second_met : {f : Fault} → check_of cs ≡ Err f → pair_of bs cs ≡ Err (refusal f.rule 2 f.place)
    unfolding pair_of
    second_met e = rw (one, e)

    -- As a service is told it.
    pub second_told : {r : Refusal} → Err r ≡ refusal_of (check_of cs) 2 → Err r ≡ pair_of bs cs
    unfolding pair_of
    second_told e = rw one (told_named (check_of cs) 2 _ e)

    module _ (two : WellFormed cs) where
      pub letters_met : (letters_of bs ≡ letters_of cs → ⊥) → pair_of bs cs ≡ Err (refusal UnlikeLetters 2 6)
      unfolding pair_of
      letters_met h = rw (one, two, ne_eqb (letters_of bs) (letters_of cs) h)

      pub both_pass : letters_of bs ≡ letters_of cs → pair_of bs cs ≡ Ok tt
      unfolding pair_of
      both_pass h = rw (one, two, eq-eqb (letters_of bs) (letters_of cs) h)

  -- A pair has passed.
  pub pair_good : (p : Pair) → p.first.bytes.now ≡ bs → p.second.bytes.now ≡ cs → Ok tt ≡ pair_of bs cs
  pair_good p e f =
      let one = rw e at p.first.well_formed in
      let two = rw f at p.second.well_formed in
      sym (both_pass one two (rw (e, f) at (sym p.alike)))

  -- Both are well formed, over the same letters.
  pub both_passed : pair_of bs cs ≡ Ok tt → Operands bs cs
  unfolding pair_of
  both_passed e = one (check_of bs) refl e
    where
      three : (b : Bool) → eqb (letters_of bs) (letters_of cs) ≡ b → cond b (Ok (tt {0})) (Err (refusal UnlikeLetters 2 6)) ≡ Ok tt → letters_of bs ≡ letters_of cs
      three true h q = eqb-true (letters_of bs) (letters_of cs) h
      three false h q = let z : ◌≡◌ {A = ℕ} 0 1 = cc in absurd (omega arith)

      two : (c : Check) → check_of cs ≡ c → named c 2 (cond (eqb (letters_of bs) (letters_of cs)) (Ok (tt {0})) (Err (refusal UnlikeLetters 2 6))) ≡ Ok tt → WellFormed cs × (letters_of bs ≡ letters_of cs)
      two (Ok u) h q = (h, three (eqb (letters_of bs) (letters_of cs)) refl q)
      two (Err f) h q = let z : ◌≡◌ {A = ℕ} 0 1 = cc in absurd (omega arith)

      one : (c : Check) → check_of bs ≡ c → named c 1 (named (check_of cs) 2 (cond (eqb (letters_of bs) (letters_of cs)) (Ok (tt {0})) (Err (refusal UnlikeLetters 2 6)))) ≡ Ok tt → Operands bs cs
      one (Ok u) h q = let t = two (check_of cs) refl q in (h, t.0, t.1)
      one (Err f) h q = let z : ◌≡◌ {A = ℕ} 0 1 = cc in absurd (omega arith)

-- In a service that writes, a refusal of the pair is the whole outcome.
pub pair_refused : (bs cs : List ℕ) (rest : Outcome) {r : Refusal} → Err r ≡ pair_of bs cs → after_pair (pair_of bs cs) rest ≡ refused r.rule r.record r.place
pair_refused bs cs rest e = ap (λ p. after_pair p rest) (sym e)

-- A refusal of the second record, other than row 8, is that of its own check.
pub second_refused : (bs cs : List ℕ) → WellFormed bs → (rule : Rule) (place : ℕ) → number_of rule < 8 → pair_of bs cs ≡ Err (refusal rule 2 place) → check_of cs ≡ Err (fault rule place)
unfolding pair_of
second_refused bs cs good rule place few e = two (check_of cs) (sym (ap (λ c. named c 1 (named (check_of cs) 2 (cond (eqb (letters_of bs) (letters_of cs)) (Ok (tt {0})) (Err (refusal UnlikeLetters 2 6))))) good) ∙ e)
  where
    three : (b : Bool) → cond b (Ok (tt {0})) (Err (refusal UnlikeLetters 2 6)) ≡ Err (refusal rule 2 place) → ⊥
    three true q = let z : ◌≡◌ {A = ℕ} 0 1 = cc in omega arith
    three false q =
        let z : UnlikeLetters ≡ rule = ap (λ r. r.rule) (same_error q) in
        let n = ap number_of z in
        omega arith

    two : (c : Check) → named c 2 (cond (eqb (letters_of bs) (letters_of cs)) (Ok (tt {0})) (Err (refusal UnlikeLetters 2 6))) ≡ Err (refusal rule 2 place) → c ≡ Err (fault rule place)
    two (Ok u) q = absurd (three (eqb (letters_of bs) (letters_of cs)) q)
    two (Err f) q = ap (λ r. Err (fault r.rule r.place)) (same_error q)

-- A refusal of the checks of two records names one of them.
pub pair_named : (bs cs : List ℕ) (rule : Rule) (place : ℕ) → pair_of bs cs ≡ Err (refusal rule 0 place) → ⊥
unfolding pair_of
pair_named bs cs rule place e = one (check_of bs) e
  where
    three : (b : Bool) → cond b (Ok (tt {0})) (Err (refusal UnlikeLetters 2 6)) ≡ Err (refusal rule 0 place) → ⊥
    three true q = let z : ◌≡◌ {A = ℕ} 0 1 = cc in omega arith
    three false q = let z : ◌≡◌ {A = ℕ} 2 0 = ap (λ r. r.record) (same_error q) in omega arith

    two : (c : Check) → named c 2 (cond (eqb (letters_of bs) (letters_of cs)) (Ok (tt {0})) (Err (refusal UnlikeLetters 2 6))) ≡ Err (refusal rule 0 place) → ⊥
    two (Ok u) q = three (eqb (letters_of bs) (letters_of cs)) q
    two (Err f) q = let z : ◌≡◌ {A = ℕ} 2 0 = ap (λ r. r.record) (same_error q) in omega arith

    one : (c : Check) → named c 1 (named (check_of cs) 2 (cond (eqb (letters_of bs) (letters_of cs)) (Ok (tt {0})) (Err (refusal UnlikeLetters 2 6)))) ≡ Err (refusal rule 0 place) → ⊥
    one (Ok u) q = two (check_of cs) q
    one (Err f) q = let z : ◌≡◌ {A = ℕ} 1 0 = ap (λ r. r.record) (same_error q) in omega arith
