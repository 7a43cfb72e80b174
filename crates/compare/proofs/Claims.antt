-- What is claimed of a comparison follows from its answer and its buffer.
use mathlib.Core.Path.{◌≡◌, refl, sym, ap, subst, ◌∙◌}
use mathlib.Core.Bool.{Bool, true, false}
use mathlib.Core.Logic.{◌⊎◌, inl, inr}
use mathlib.Core.List.{List, []}
use mathlib.Core.Option.{some}
use Prim.Native.Nat.{ℕ, ◌<◌, ◌≤◌}
use lib.ListN.{length, take}
use Rattle.automata.specs.Xor.{◌⊕◌}
use Rattle.automata.proofs.FirstDifference.{difference_none, none_difference, some_difference}
use Rattle.record.specs.Record.{letters_of, automaton_of, language_of}
use Rattle.record.specs.Outcome.{buffer_in}
use Rattle.record.proofs.Outcome.{outcome_take}
use Rattle.record.specs.Claims.{Operands, SameWords, FirstWord}
use Rattle.operands.specs.Meant.{blank_of, as_meant}
use Rattle.operands.specs.Operands.{pair_of}
use Rattle.operands.proofs.PairLaws.{both_pass, both_passed, pair_named}
use Rattle.operands.proofs.MeantLaws.{as_blank}
use Rattle.std.specs.Prelude.{Ok, Err, None, Some}
use Rattle.record.specs.Rules.{refusal}
use Rattle.record.specs.declared.Rule.TheVariants.{NoRoom}
use Rattle.verdict.specs.Side.{side_of}
use Rattle.verdict.specs.declared.Side.{Side}
use Rattle.verdict.specs.declared.Side.TheVariants.{First, Second}
use Rattle.compare.specs.Compare.{Compared, difference_of, compare_outcome, differs, acceptor_of, compare_answer, Differ, ShortWord, Withheld, Compares}
use Rattle.compare.proofs.CompareLaws.{clash, word_answer, word_withheld, same_answer, Written, Kept, Case, case}

-- ---- the side that accepts a difference

module _ (bs cs w : List ℕ) where
  -- The side that the answer names accepts the word.
  pub accepted : language_of bs w ⊕ language_of cs w ≡ true → language_of (acceptor_of (side_of (language_of bs w)) bs cs) w ≡ true
  accepted e = go (language_of bs w) refl e
    where
      go : (b : Bool) → language_of bs w ≡ b → b ⊕ language_of cs w ≡ true → language_of (acceptor_of (side_of b) bs cs) w ≡ true
      go true h q = h
      go false h q = q

  -- A side that accepts it is the one that the answer names.
  pub side_named : (s : Side) → language_of bs w ⊕ language_of cs w ≡ true → language_of (acceptor_of s bs cs) w ≡ true → side_of (language_of bs w) ≡ s
  side_named First e h = rw h
  side_named Second e h = go (language_of bs w) (language_of cs w) e h
    where
      go : (k a : Bool) → k ⊕ a ≡ true → a ≡ true → side_of k ≡ Second
      go true true e h = clash (cc)
      go true false e h = clash (cc)
      go false a e h = refl

-- ---- the claims

module _ (bs cs buf exit : List ℕ) (r : Compared) (answer : r ≡ compare_answer bs cs (length buf)) (buffer : exit ≡ buffer_in (compare_outcome bs cs) buf) where
  told : (m : Compared) → r ≡ m → Case bs cs (length buf) m
  told m e = subst (Case bs cs (length buf)) e (case bs cs (length buf) r answer)

  both : Operands bs cs → pair_of bs cs ≡ Ok tt
  both p = both_pass bs cs p.0 p.1 p.2

  found : (w : List ℕ) → FirstWord bs cs w → difference_of bs cs ≡ some w
  unfolding difference_of
  found w f = some_difference (letters_of bs) (automaton_of bs) (automaton_of cs) w f

  same : Operands bs cs → (r ≡ Ok None → SameWords bs cs) × (SameWords bs cs → r ≡ Ok None)
  unfolding difference_of
  same p = (
    λ e. difference_none (letters_of bs) (automaton_of bs) (automaton_of cs) (told (Ok None) e).1,
    λ s. answer ∙ same_answer bs cs (length buf) (both p) (none_difference (letters_of bs) (automaton_of bs) (automaton_of cs) s),
  )

  names : Operands bs cs → (w : List ℕ) (s : Side) → Differ bs cs w s → length w ≤ length buf → r ≡ Ok (Some (differs (length w) s))
  names p w s d h = answer ∙ word_answer bs cs (length buf) (both p) w (found w d.0) h ∙ ap (λ x. Ok (Some (differs (length w) x))) (side_named bs cs w s d.0.differs d.1)

  withholds : Operands bs cs → (w : List ℕ) → FirstWord bs cs w → length buf < length w → r ≡ Err (refusal NoRoom 0 (length w))
  withholds p w f h = answer ∙ word_withheld bs cs (length buf) (both p) w (found w f) h

  named : (n : ℕ) (s : Side) → r ≡ Ok (Some (differs n s)) → Operands bs cs × Differ bs cs (take n exit) s × ShortWord bs cs n
  named n s e =
      let t : Written bs cs (length buf) n s = told (Ok (Some (differs n s))) e in
      let f = t.difference in
      let bytes : take n exit ≡ f.word = ap (take n) buffer ∙ outcome_take (compare_outcome bs cs (length buf)) f.word buf n t.written t.count in
      let differ : Differ bs cs f.word s = (f.first, ap (λ x. language_of (acceptor_of x bs cs) f.word) t.side ∙ accepted bs cs f.word f.first.differs) in
      (both_passed bs cs f.both, subst (λ w. Differ bs cs w s) (sym bytes) differ, subst (ShortWord bs cs) (sym t.count) f.short)

  withheld : (k : ℕ) → r ≡ Err (refusal NoRoom 0 k) → Operands bs cs × Withheld bs cs buf k
  withheld k e = go (told (Err (refusal NoRoom 0 k)) e)
    where
      go : (pair_of bs cs ≡ Err (refusal NoRoom 0 k)) ⊎ Kept bs cs (length buf) (refusal NoRoom 0 k) → Operands bs cs × Withheld bs cs buf k
      go (inl q) = absurd (pair_named bs cs NoRoom k q)
      go (inr t) =
          let f = t.difference in (
            both_passed bs cs f.both,
            record {
              word = f.word;
              first = f.first;
              letters = sym t.count;
              room = subst (λ x. length buf < x) (sym t.count) t.less;
              short = subst (ShortWord bs cs) (sym t.count) f.short;
            },
          )

  pub claims : Compares bs cs buf exit r
  claims = record { same = same; names = names; named = named; withholds = withholds; withheld = withheld }

-- ---- a blank

-- For a blank the answer and the buffer are those for the record of 15 bytes that it stands for.
pub compare_blank : (bs buf : List ℕ)
    → (as_meant compare_answer bs [] (length buf) ≡ as_meant compare_answer bs (blank_of (letters_of bs)) (length buf))
    × (buffer_in (as_meant compare_outcome bs []) buf ≡ buffer_in (as_meant compare_outcome bs (blank_of (letters_of bs))) buf)
compare_blank bs buf = (as_blank (λ bs cs. compare_answer bs cs (length buf)) bs, as_blank (λ bs cs. buffer_in (compare_outcome bs cs) buf) bs)
