-- The minimal service case by case, and what is claimed of what it writes.
use mathlib.Core.Path.{◌≡◌, refl, sym, ap, subst, ◌∙◌}
use mathlib.Core.List.{List}
use Prim.Native.Nat.{ℕ}
use native.Mathlib.Omega.{arith}
use lib.ListN.{length, take}
use Rattle.automata.specs.Automaton.{accepts}
use Rattle.automata.specs.MinimalOf.{minimal_of, dimension_of}
use Rattle.automata.proofs.Dimension.{minimal_states}
use Rattle.rows.specs.declared.Machine.{Machine}
use Rattle.rows.specs.Row.{mask}
use Rattle.rows.specs.Machine.{automaton_in}
use Rattle.minimisation.specs.Minimises.{Minimises}
use Rattle.record.specs.Record.{states_of, letters_of, check_of, WellFormed, automaton_of, language_of, encode}
use Rattle.record.specs.Claims.{MinimalRecord}
use Rattle.std.specs.Prelude.{Result, Ok, Err}
use Rattle.record.specs.Rules.{refusal_of}
use Rattle.record.specs.declared.Refusal.{Refusal}
use Rattle.record.specs.Outcome.{Outcome, refused, wrote, answer_of, buffer_of, buffer_in, fit}
use Rattle.record.proofs.Refusals.{good_check}
use Rattle.record.proofs.Encode.{states_encode, fields_encode}
use Rattle.record.proofs.Outcome.{checked_refused, checked_wrote, fit_wrote, outcome_take}
use Rattle.record.proofs.Claims.{dimension_fits, minimal_encode}
use Rattle.minimal.specs.Minimal.{minimal_bytes, minimal_outcome, minimised, minimised_as, minimal_answer, GivesMinimal}
use Rattle.minimal.specs.declared.Minimised.{Minimised}

-- The minimal record of a well-formed record, as the function gives it.
pub minimal_bytes_lem : (bs : List ℕ) → WellFormed bs → MinimalRecord (letters_of bs) (language_of bs) (minimal_bytes bs) × (states_of (minimal_bytes bs) ≡ dimension_of (letters_of bs) (automaton_of bs))
unfolding minimal_bytes
minimal_bytes_lem bs good =
    let a = letters_of bs in
    let A = automaton_of bs in
    let f = (good_check bs good).front in (
      minimal_encode a f.some f.letters (accepts A) A (λ w ow. refl) (dimension_fits a bs good),
      states_encode a (minimal_of a A) ∙ minimal_states a A,
    )

same_answer : {x y : Minimised} → ◌≡◌ {A = Result Minimised Refusal} (Ok x) (Ok y) → x ≡ y
same_answer e = cc

-- An answer that grants tells what was written.
granted : (o : Outcome) (n d dim : ℕ) → minimised_as dim (answer_of o) ≡ Ok (minimised n d) → (out : List ℕ) × (o ≡ wrote out) × (n ≡ length out) × (d ≡ dim)
granted (refused rule which place) n d dim e = let z : ◌≡◌ {A = ℕ} 0 1 = cc in absurd (omega arith)
granted (wrote out) n d dim e = let q = sym (same_answer e) in (out, refl, ap (λ m. m.length) q, ap (λ m. m.dimension) q)

-- What a granted call leaves in the buffer is the minimal record: the claims follow from the answer and the buffer.
pub minimal_claims : (bs buf exit : List ℕ) (r : Result Minimised Refusal) → r ≡ minimal_answer bs (length buf) → exit ≡ buffer_in (minimal_outcome bs) buf → GivesMinimal bs exit r
unfolding minimal_outcome
minimal_claims bs buf exit r answer buffer n d e =
    let o = minimal_outcome bs (length buf) in
    let g = granted o n d (dimension_of (letters_of bs) (automaton_of bs)) (sym answer ∙ e) in
    let c = checked_wrote (check_of bs) 1 (fit (length buf) (minimal_bytes bs)) g.0 g.1 in
    let bytes : take n exit ≡ minimal_bytes bs = ap (take n) buffer ∙ outcome_take o g.0 buf n g.1 g.2 ∙ fit_wrote (length buf) (minimal_bytes bs) g.0 c.1 in
    let m = minimal_bytes_lem bs c.0 in
    (subst (MinimalRecord (letters_of bs) (language_of bs)) (sym bytes) m.0, ap states_of bytes ∙ m.1 ∙ sym g.3)

-- A refused record is the whole outcome.
pub minimal_refused : (bs : List ℕ) (room : ℕ) {r : Refusal} → Err r ≡ refusal_of (check_of bs) 1 → minimal_outcome bs room ≡ refused r.rule r.record r.place
unfolding minimal_outcome
minimal_refused bs room e = checked_refused (check_of bs) 1 (fit room (minimal_bytes bs)) e

-- A well-formed record: what is written is the record of the minimal automaton.
pub minimal_written : (bs : List ℕ) (room : ℕ) (t : List ℕ) (m : Machine) → WellFormed bs → m.letters ≡ letters_of bs → Minimises (letters_of bs) (automaton_of bs) t m.states (mask m.initial) (mask m.finals)
    → minimal_outcome bs room ≡ fit room (encode m.letters (automaton_in t m))
unfolding minimal_outcome minimal_bytes
minimal_written bs room t m good e M =
    rw good (ap (fit room) (sym (ap (λ a. encode a (automaton_in t m)) e ∙ fields_encode (letters_of bs) (automaton_in t m) (minimal_of (letters_of bs) (automaton_of bs)) M.same_fields)))

-- The answer and the buffer, by what was written.
pub minimal_given : (bs buf exit t : List ℕ) (m : Machine) (w : Result ℕ Refusal) → WellFormed bs → m.letters ≡ letters_of bs → Minimises (letters_of bs) (automaton_of bs) t m.states (mask m.initial) (mask m.finals)
    → w ≡ answer_of (fit (length buf) (encode m.letters (automaton_in t m))) → exit ≡ buffer_of (fit (length buf) (encode m.letters (automaton_in t m))) buf
    → (minimised_as m.states w ≡ minimal_answer bs (length buf)) × (exit ≡ buffer_in (minimal_outcome bs) buf)
minimal_given bs buf exit t m w good e M answer buffer =
    let o = sym (minimal_written bs (length buf) t m good e M) in (
      ap (minimised_as m.states) (answer ∙ ap answer_of o) ∙ ap (λ d. minimised_as d (answer_of (minimal_outcome bs (length buf)))) M.dimension,
      buffer ∙ ap (λ x. buffer_of x buf) o,
    )
