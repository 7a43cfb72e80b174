-- The outcome of the star, case by case, and its claims over all words.
use mathlib.Core.Path.{◌≡◌, refl, sym, ap, subst, ◌∙◌}
use mathlib.Core.Bool.{Bool, true, false}
use mathlib.Core.List.{List, [], ◌∷◌}
use Prim.Native.Nat.{ℕ}
use native.Mathlib.Omega.{arith}
use lib.ListN.{length}
use Rattle.automata.specs.Count.{Member}
use Rattle.automata.specs.Operations.{ends, star_of}
use Rattle.automata.proofs.Acceptance.{accepts_reach}
use Rattle.automata.proofs.StarOf.{accepts_star}
use Rattle.rows.specs.declared.Machine.{Machine}
use Rattle.rows.specs.Machine.{automaton_in}
use Rattle.record.specs.Record.{letters_of, check_of, WellFormed, automaton_of, language_of}
use Rattle.record.specs.Held.{Holds}
use Rattle.record.specs.Outcome.{Outcome, refused, wrote, checked, answer_of, answer_in, buffer_in}
use Rattle.std.specs.Prelude.{Result, Ok, Err}
use Rattle.record.specs.Rules.{number_of, Check, refusal_of}
use Rattle.record.specs.declared.Rule.{Rule}
use Rattle.record.specs.declared.Rule.TheVariants.{Dimension, EmptyWord}
use Rattle.record.specs.declared.Refusal.{Refusal}
use Rattle.record.proofs.Numbers.{not_member, check_numbers, check_numbers_lem, not_among}
use Rattle.record.proofs.Outcome.{checked_wrote, checked_refused}
use Rattle.results.specs.Results.{result_of}
use Rattle.results.specs.Built.{Built}
use Rattle.results.proofs.BuiltLaws.{held_words_lem}
use Rattle.results.proofs.ResultLaws.{result_among, answer_refused, Promises, Service, service_of}
use Rattle.results.proofs.Passed.{sizes, unnamed_checked}
use Rattle.star.specs.Star.{refusing_empty, star_outcome, star_words, LacksEmpty, GivesStar}

-- A record accepts the empty word exactly if an odd number of its states is both initial and final.
pub empty_held : (bs t : List ℕ) (g : Machine) → Holds bs t g → language_of bs [] ≡ ends (automaton_in t g) (automaton_in t g).initial
empty_held bs t g H = held_words_lem bs t g H [] tt ∙ accepts_reach (automaton_in t g) []

module _ (bs : List ℕ) where
  -- ---- the cases of the outcome

  pub star_refused : (room : ℕ) {r : Refusal} → Err r ≡ refusal_of (check_of bs) 1 → star_outcome bs room ≡ refused r.rule r.record r.place
  unfolding star_outcome
  star_refused room e = checked_refused (check_of bs) 1 _ e

  module _ (room : ℕ) where
    abbrev result : Outcome
    result = result_of (letters_of bs) (star_of (automaton_of bs)) room

    pub star_empty : WellFormed bs → language_of bs [] ≡ true → star_outcome bs room ≡ refused EmptyWord 1 0
    unfolding star_outcome
    star_empty good e = ap (λ c. checked c 1 (refusing_empty (language_of bs []) result)) good ∙ ap (λ b. refusing_empty b result) e

    star_lacks : LacksEmpty bs → star_outcome bs room ≡ result
    unfolding star_outcome
    star_lacks p = ap (λ c. checked c 1 (refusing_empty (language_of bs []) result)) p.0 ∙ ap (λ b. refusing_empty b result) p.1

    star_wrote : (out : List ℕ) → star_outcome bs room ≡ wrote out → LacksEmpty bs
    unfolding star_outcome
    star_wrote out e = let t = checked_wrote (check_of bs) 1 (refusing_empty (language_of bs []) result) out e in (t.0, go (language_of bs []) t.1)
      where
        go : (b : Bool) → refusing_empty b result ≡ wrote out → b ≡ false
        go true q = let z : ◌≡◌ {A = ℕ} 0 1 = cc in absurd (omega arith)
        go false q = refl

    -- A refusal that names no record comes after the check and row 14.
    star_passed : (rule : Rule) (k : ℕ) → star_outcome bs room ≡ refused rule 0 k → LacksEmpty bs
    unfolding star_outcome
    star_passed rule k e =
        let good = unnamed_checked (check_of bs) (refusing_empty (language_of bs []) result) rule k e in
        (good, go (language_of bs []) (sym (ap (λ c. checked c 1 (refusing_empty (language_of bs []) result)) good) ∙ e))
      where
        go : (b : Bool) → refusing_empty b result ≡ refused rule 0 k → b ≡ false
        go true q = let z : ◌≡◌ {A = ℕ} 1 0 = cc in absurd (omega arith)
        go false q = refl

    -- Row 14 is no refusal of the check, and none of the result.
    star_fourteen : (which place : ℕ) → star_outcome bs room ≡ refused EmptyWord which place → WellFormed bs × (language_of bs [] ≡ true)
    unfolding star_outcome
    star_fourteen which place e = first (check_of bs) refl e
      where
        second : (b : Bool) → refusing_empty b result ≡ refused EmptyWord which place → b ≡ true
        second true q = refl
        second false q = absurd (not_among (11 ∷ 12 ∷ []) _ (result_among (letters_of bs) (star_of (automaton_of bs)) room) EmptyWord which place refl q)

        first : (c : Check) → check_of bs ≡ c → checked c 1 (refusing_empty (language_of bs []) result) ≡ refused EmptyWord which place → (c ≡ Ok (tt {0})) × (language_of bs [] ≡ true)
        first (Ok u) h q = (refl, second (language_of bs []) q)
        first (Err f) h q =
            let z : f.rule ≡ EmptyWord = cc in
            absurd (not_member check_numbers 14 refl (subst (λ r. Member (number_of r) check_numbers) z (check_numbers_lem bs f h)))

  -- ---- the claims

  star_service : (buf : List ℕ) → Service (letters_of bs) (star_words bs) (LacksEmpty bs) buf (star_outcome bs (length buf))
  star_service buf = service_of (letters_of bs) (star_words bs) (star_of (automaton_of bs)) (λ w ow. sym (accepts_star (automaton_of bs) w)) (LacksEmpty bs) (λ p. sizes bs p.0) buf (star_outcome bs (length buf))
      (star_lacks (length buf)) (star_wrote (length buf)) (star_passed (length buf) Dimension)

  -- Row 14 beside the promises that every operation has.
  abbrev Promised : List ℕ → List ℕ → Result ℕ Refusal → Type 0
  Promised buf exit r = (r ≡ answer_in (star_outcome bs) buf) × ((exit ≡ buffer_in (star_outcome bs) buf) × GivesStar bs exit r)

  with_fourteen : (buf exit : List ℕ) (r : Result ℕ Refusal) → Promises (letters_of bs) (star_words bs) (LacksEmpty bs) (star_outcome bs (length buf)) buf exit r → Promised buf exit r
  with_fourteen buf exit r p = (
    p.0,
    (
      p.1.0,
      record {
        refuses = λ good e. p.0 ∙ ap answer_of (star_empty (length buf) good e);
        only = λ which place q. star_fourteen (length buf) which place (answer_refused (star_outcome bs (length buf)) EmptyWord which place (sym p.0 ∙ q));
        gives = p.1.1;
      },
    ),
  )

  pub star_refuses : (buf : List ℕ) (f : Refusal) (r : Result ℕ Refusal) → star_outcome bs (length buf) ≡ refused f.rule f.record f.place → r ≡ Err f → Promised buf buf r
  star_refuses buf f r e answer = with_fourteen buf buf r ((star_service buf).0 f r e answer)

  pub star_gives : (buf t : List ℕ) (m : Machine) (exit : List ℕ) (r : Result ℕ Refusal) → LacksEmpty bs → Built (letters_of bs) (star_words bs) t m
      → r ≡ answer_in (result_of m.letters (automaton_in t m)) buf → exit ≡ buffer_in (result_of m.letters (automaton_in t m)) buf → Promised buf exit r
  star_gives buf t m exit r p B answer buffer = with_fourteen buf exit r ((star_service buf).1 t m exit r p B answer buffer)
