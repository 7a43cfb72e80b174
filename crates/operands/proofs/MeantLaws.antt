-- What a second record stands for: the bytes of a blank's record, when bytes stand for themselves, and what a blank is beside a record.
use mathlib.Core.Path.{◌≡◌, refl, sym, ap, subst, ◌∙◌}
use mathlib.Core.Bool.{false}
use mathlib.Core.List.{List, [], ◌∷◌}
use Prim.Native.Nat.{ℕ, ◌<◌, ◌≤◌}
use native.Mathlib.Omega.{arith}
use lib.ListN.{length, drop_of_length-le}
use Rattle.automata.specs.Minimal.{SameBits}
use Rattle.automata.specs.MinimalOf.{minimal_of}
use Rattle.automata.specs.Operations.{stateless}
use Rattle.automata.specs.Fields.{rows_of}
use Rattle.automata.proofs.Dimension.{dimension_least, minimal_states}
use Rattle.automata.proofs.Fields.{rows_length, bits_fields}
use Rattle.record.specs.Bytes.{bytes_of, all_bytes}
use Rattle.record.specs.Record.{max_letters, header, letters_of, WellFormed, language_of, encode}
use Rattle.record.specs.Outcome.{Outcome, answer_in, buffer_in}
use Rattle.record.specs.Claims.{Operands, MinimalRecord}
use Rattle.record.proofs.Refusals.{good_check}
use Rattle.record.proofs.Numbers.{check_short, short_check}
use Rattle.record.proofs.Encode.{letters_encode, check_encode, fields_encode}
use Rattle.record.proofs.Claims.{minimal_encode}
use Rattle.operands.specs.Meant.{blank_of, meant_over, as_meant}
use Rattle.operands.specs.Operands.{pair_of}
use Rattle.std.specs.Prelude.{Ok, Err}
use Rattle.record.specs.Rules.{refusal}
use Rattle.record.specs.declared.Rule.TheVariants.{TooShort}
use Rattle.operands.proofs.PairLaws.{second_met, second_refused, both_pass}

-- ---- the bytes of a blank's record

-- With no states there are no rows.
no_rows : (a : ℕ) (f : ℕ → ℕ → ℕ) → rows_of a 0 f ≡ []
no_rows a f = drop_of_length-le (rows_of a 0 f) {i = 0} (omega (arith, rows_length a 0 f))

-- The head, then I and F, which are 0.
pub blank_bytes : (a : ℕ) → 0x4E ∷ 0x58 ∷ 0x41 ∷ 1 ∷ 0 ∷ 0 ∷ a ∷ 0 ∷ 0 ∷ 0 ∷ 0 ∷ 0 ∷ 0 ∷ 0 ∷ 0 ∷ [] ≡ blank_of a
unfolding encode all_bytes bytes_of
blank_bytes a = rw (no_rows a (λ l i. 0))

pub blank_length : (a : ℕ) → length (blank_of a) ≡ 15
blank_length a = sym (ap length (blank_bytes a))

-- ---- what is meant

-- 0 bytes, and what was written for them.
pub meant_blank : (a : ℕ) (b cs : List ℕ) → length cs ≡ 0 → b ≡ blank_of a → b ≡ meant_over a cs
meant_blank a b [] none e = e
meant_blank a b (c ∷ cs) none e = absurd (omega arith)

-- Any bytes stand for themselves.
pub meant_itself : (a : ℕ) (cs : List ℕ) → (length cs ≡ 0 → ⊥) → cs ≡ meant_over a cs
meant_itself a [] some = absurd (some refl)
meant_itself a (c ∷ cs) some = refl

-- So a well-formed record does.
pub meant_formed : (a : ℕ) (cs : List ℕ) → WellFormed cs → cs ≡ meant_over a cs
meant_formed a cs good = meant_itself a cs (λ none. omega (arith, (good_check cs good).front.long))

-- Whatever is said of two records as they are meant: for a blank it is what is said for the record of 15 bytes.
pub as_blank {ℓ} : {X : Type ℓ} (f : List ℕ → List ℕ → X) (bs : List ℕ) → as_meant f bs [] ≡ as_meant f bs (blank_of (letters_of bs))
unfolding encode
as_blank f bs = refl

-- A service that writes: the same answer and the same buffer.
abbrev pub SameFor : (List ℕ → List ℕ → ℕ → Outcome) → List ℕ → List ℕ → List ℕ → List ℕ → Type 0
SameFor f buf bs cs ds = (answer_in (as_meant f bs cs) buf ≡ answer_in (as_meant f bs ds) buf) × (buffer_in (as_meant f bs cs) buf ≡ buffer_in (as_meant f bs ds) buf)

pub writes_blank : (f : List ℕ → List ℕ → ℕ → Outcome) (buf bs : List ℕ) → SameFor f buf bs [] (blank_of (letters_of bs))
writes_blank f buf bs = (as_blank (λ bs cs. answer_in (f bs cs) buf) bs, as_blank (λ bs cs. buffer_in (f bs cs) buf) bs)

-- ---- a blank beside a well-formed record

-- The minimal automaton of no word has no states.
no_states_lem : (a : ℕ) → SameBits a (minimal_of a stateless) stateless
no_states_lem a =
    let none : (minimal_of a stateless).states ≡ 0 = omega (arith, minimal_states a stateless, dimension_least a stateless stateless (λ w ow. refl)) in
    record {
      states = none;
      initial = λ k h. absurd (omega arith);
      final = λ k h. absurd (omega arith);
      step = λ l i j hl hi hj. absurd (omega arith);
    }

-- It accepts no word, over whatever letters.
pub blank_words : (a : ℕ) (w : List ℕ) → language_of (blank_of a) w ≡ false
unfolding encode
blank_words a w = refl

-- What a blank stands for is the minimal record of no word: catalogue 0, over any number of letters.
pub blank_minimal : (a : ℕ) → 1 ≤ a → a ≤ max_letters → MinimalRecord a (λ w. false) (blank_of a)
blank_minimal a some few =
    subst (MinimalRecord a (λ w. false)) (fields_encode a (minimal_of a stateless) stateless (bits_fields a (minimal_of a stateless) stateless (no_states_lem a)))
    (minimal_encode a some few (λ w. false) stateless (λ w ow. refl) (omega (arith, dimension_least a stateless stateless (λ w ow. refl))))

pub blank_operands : (bs : List ℕ) → WellFormed bs → Operands bs (blank_of (letters_of bs))
blank_operands bs good =
    let f = (good_check bs good).front in
    (good, check_encode (letters_of bs) stateless (omega arith) f.some f.letters, sym (letters_encode (letters_of bs) stateless))

-- A blank is never refused.
pub blank_passes : (bs : List ℕ) → WellFormed bs → as_meant pair_of bs [] ≡ Ok tt
blank_passes bs good = let p = blank_operands bs good in both_pass bs (blank_of (letters_of bs)) p.0 p.1 p.2

-- ---- refusal 1 of the second record

-- It comes exactly with 1 to 6 bytes, its place their number.
module _ (bs cs : List ℕ) (good : WellFormed bs) where
  pub second_short : 0 < length cs → length cs < header → as_meant pair_of bs cs ≡ Err (refusal TooShort 2 (length cs))
  second_short some few =
      subst (λ x. pair_of bs x ≡ Err (refusal TooShort 2 (length cs))) (meant_itself (letters_of bs) cs (λ none. omega arith))
      (second_met bs cs good (check_short cs few))

  pub short_second : (place : ℕ) → as_meant pair_of bs cs ≡ Err (refusal TooShort 2 place) → (0 < length cs) × (length cs < header) × (place ≡ length cs)
  short_second place e = go cs e
    where
      go : (cs : List ℕ) → as_meant pair_of bs cs ≡ Err (refusal TooShort 2 place) → (0 < length cs) × (length cs < header) × (place ≡ length cs)
      go [] q = let z = sym (blank_passes bs good) ∙ q in let y : ◌≡◌ {A = ℕ} 0 1 = cc in absurd (omega arith)
      go (c ∷ cs) q = let t = short_check (c ∷ cs) place (second_refused bs (c ∷ cs) good TooShort place (omega arith) q) in (omega arith, t.0, t.1)
