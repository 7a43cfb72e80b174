-- The comparison's outcome and its answer, case by case.
use mathlib.Core.Path.{◌≡◌, refl, sym, ap₂, subst, ◌∙◌}
use mathlib.Core.Logic.{◌⊎◌, inl, inr}
use mathlib.Core.List.{List, []}
use mathlib.Core.Option.{Option, none, some}
use Prim.Native.Nat.{ℕ, ◌≤◌, ◌<◌}
use native.Mathlib.Decide.{dec_lt}
use native.Mathlib.Omega.{arith}
use lib.ListN.{length}
use Rattle.automata.specs.Dimension.{IsDimension}
use Rattle.automata.specs.MinimalOf.{dimension_of}
use Rattle.automata.proofs.Dimension.{dimension_unique, dimension_of_lem}
use Rattle.automata.proofs.FirstDifference.{difference_some, difference_short}
use Rattle.record.specs.Record.{letters_of, automaton_of, language_of}
use Rattle.std.specs.Prelude.{Ok, Err, None, Some}
use Rattle.record.specs.Rules.{Checks, refusal}
use Rattle.record.specs.declared.Refusal.{Refusal}
use Rattle.record.specs.declared.Rule.TheVariants.{NoRoom}
use Rattle.record.specs.Outcome.{refused, wrote, fit}
use Rattle.record.proofs.Outcome.{fit_short, fit_done}
use Rattle.record.proofs.Claims.{dimension_fits}
use Rattle.record.specs.Claims.{Operands, FirstWord}
use Rattle.operands.specs.Operands.{pair_of}
use Rattle.operands.proofs.PairLaws.{both_passed}
use Rattle.verdict.specs.Side.{side_of}
use Rattle.verdict.specs.declared.Side.{Side}
use Rattle.compare.specs.Compare.{Compared, difference_of, compare_outcome, differs, compared_as, compare_answer, ShortWord}

pub clash : {X : Type 0} → ◌≡◌ {A = ℕ} 0 1 → X
clash z = absurd (omega arith)

-- ---- the cases of the outcome

module _ (bs cs : List ℕ) (room : ℕ) where
  pub outcome_refused : (r : Refusal) → pair_of bs cs ≡ Err r → compare_outcome bs cs room ≡ refused r.rule r.record r.place
  unfolding compare_outcome
  outcome_refused r e = rw e

  module _ (both : pair_of bs cs ≡ Ok tt) where
    pub outcome_same : difference_of bs cs ≡ none → compare_outcome bs cs room ≡ wrote []
    unfolding compare_outcome
    outcome_same e = rw (both, e)

    pub outcome_word : (w : List ℕ) → difference_of bs cs ≡ some w → compare_outcome bs cs room ≡ fit room w
    unfolding compare_outcome
    outcome_word w e = rw (both, e)

-- ---- the cases of the answer

module _ (bs cs : List ℕ) (room : ℕ) (both : pair_of bs cs ≡ Ok tt) where
  -- The word is written in full exactly where there is room for it.
  pub word_answer : (w : List ℕ) → difference_of bs cs ≡ some w → length w ≤ room → compare_answer bs cs room ≡ Ok (Some (differs (length w) (side_of (language_of bs w))))
  word_answer w e h = ap₂ (λ d o. compared_as d (automaton_of bs) o) e (outcome_word bs cs room both w e ∙ fit_done room w refl h)

  pub word_withheld : (w : List ℕ) → difference_of bs cs ≡ some w → room < length w → compare_answer bs cs room ≡ Err (refusal NoRoom 0 (length w))
  word_withheld w e h = ap₂ (λ d o. compared_as d (automaton_of bs) o) e (outcome_word bs cs room both w e ∙ fit_short room w refl h)

  pub same_answer : difference_of bs cs ≡ none → compare_answer bs cs room ≡ Ok None
  same_answer e = ap₂ (λ d o. compared_as d (automaton_of bs) o) e (outcome_same bs cs room both e)

-- ---- what the answer tells

-- The first difference has fewer letters than the two dimensions added, each of which is at most 32.
word_short : (bs cs w : List ℕ) → Operands bs cs → difference_of bs cs ≡ some w → ShortWord bs cs (length w)
unfolding difference_of
word_short bs cs w p e =
    let a = letters_of bs in
    let A = automaton_of bs in
    let B = automaton_of cs in
    let short = difference_short a A B w e in (
      omega (arith, short, dimension_fits a bs p.0, dimension_fits a cs p.1),
      λ d k hd hk. omega (
        arith,
        short,
        dimension_unique a (language_of bs) d (dimension_of a A) hd (dimension_of_lem a A),
        dimension_unique a (language_of cs) k (dimension_of a B) (subst (λ x. IsDimension x (language_of cs) k) (sym p.2) hk) (dimension_of_lem a B),
      ),
    )

-- The first word that just one of two records accepts was found.
pub record Found (bs cs : List ℕ) : Type 0 where
  pub word : List ℕ
  pub both : pair_of bs cs ≡ Ok tt
  pub found : difference_of bs cs ≡ some word
  pub first : FirstWord bs cs word
  pub short : ShortWord bs cs (length word)

-- It was written in full, or withheld.
pub record Written (bs cs : List ℕ) (room n : ℕ) (s : Side) : Type 0 where
  pub difference : Found bs cs
  pub written : compare_outcome bs cs room ≡ wrote difference.word
  pub count : n ≡ length difference.word
  pub side : s ≡ side_of (language_of bs difference.word)

pub record Kept (bs cs : List ℕ) (room : ℕ) (r : Refusal) : Type 0 where
  pub difference : Found bs cs
  pub less : room < length difference.word
  pub twelve : r.rule ≡ NoRoom
  pub none : r.record ≡ 0
  pub count : r.place ≡ length difference.word

abbrev pub Case : List ℕ → List ℕ → ℕ → Compared → Type 0
Case bs cs room (Ok None) = (pair_of bs cs ≡ Ok tt) × (difference_of bs cs ≡ none)
Case bs cs room (Ok (Some d)) = Written bs cs room d.length d.side
Case bs cs room (Err r) = (pair_of bs cs ≡ Err r) ⊎ Kept bs cs room r

module _ (bs cs : List ℕ) (room : ℕ) where
  pub case : (r : Compared) → r ≡ compare_answer bs cs room → Case bs cs room r
  unfolding difference_of
  case r e = subst (Case bs cs room) (sym e) (pair (pair_of bs cs) refl)
    where
      word : (f : Found bs cs) → Dec (room < length f.word) → Case bs cs room (compare_answer bs cs room)
      word f (yes g) =
          subst (Case bs cs room) (sym (word_withheld bs cs room f.both f.word f.found g))
          (inr (record { difference = f; less = g; twelve = refl; none = refl; count = refl }))
      word f (no g) =
          subst (Case bs cs room) (sym (word_answer bs cs room f.both f.word f.found (omega arith)))
          (record { difference = f; written = outcome_word bs cs room f.both f.word f.found ∙ fit_done room f.word refl (omega arith); count = refl; side = refl })

      verdict : pair_of bs cs ≡ Ok tt → (d : Option (List ℕ)) → difference_of bs cs ≡ d → Case bs cs room (compare_answer bs cs room)
      verdict both none h = subst (Case bs cs room) (sym (same_answer bs cs room both h)) (both, h)
      verdict both (some w) h =
          word (record {
            word = w;
            both = both;
            found = h;
            first = difference_some (letters_of bs) (automaton_of bs) (automaton_of cs) w h;
            short = word_short bs cs w (both_passed bs cs both) h;
          }) (dec_lt room (length w))

      pair : (p : Checks) → pair_of bs cs ≡ p → Case bs cs room (compare_answer bs cs room)
      pair (Ok u) h = verdict h (difference_of bs cs) refl
      pair (Err x) h =
          subst (λ o. Case bs cs room (compared_as (difference_of bs cs) (automaton_of bs) o)) (sym (outcome_refused bs cs room x h)) (inl h)
