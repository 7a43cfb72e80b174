-- What the form of a minimal record amounts to, and that the record of a minimal automaton has it.
use mathlib.Core.Path.{◌≡◌, refl, sym, ap, subst, ◌∙◌}
use mathlib.Core.List.{List}
use Prim.Native.Nat.{ℕ, ◌+◌, ◌*◌, ◌^◌, ◌≤◌, ◌<◌}
use native.Mathlib.Omega.{arith}
use lib.ListN.{length}
use Rattle.automata.specs.Automaton.{Automaton, accepts}
use Rattle.automata.specs.Language.{Language, Same}
use Rattle.automata.specs.Dimension.{IsDimension}
use Rattle.automata.specs.Minimal.{Minimal}
use Rattle.automata.specs.MinimalOf.{basis_words, minimal_of, dimension_of}
use Rattle.automata.specs.Operations.{stateless}
use Rattle.automata.proofs.Minimal.{minimal_accepts, minimal_dimension, minimal_same, minimal_unique, same_sym, bits_minimal}
use Rattle.automata.proofs.MinimalOf.{minimal_of_lem}
use Rattle.automata.proofs.Dimension.{dimension_unique, dimension_of_lem, dimension_least, minimal_states}
use Rattle.automata.proofs.Fields.{bits_fields}
use Rattle.record.specs.Bytes.{number}
use Rattle.record.specs.Record.{max_states, max_letters, row_bytes, initial_at, final_at, states_of, WellFormed, automaton_of, language_of, encode}
use Rattle.record.specs.Claims.{MinimalForm, MinimalRecord}
use Rattle.record.proofs.Refusals.{good_check}
use Rattle.record.proofs.Encode.{letters_encode, check_encode, bits_encode, bytes_encode, fields_encode, encode_automaton}

-- A well-formed record of no states has no bits.
no_bits : (bs : List ℕ) → WellFormed bs → states_of bs ≡ 0 → (number row_bytes bs initial_at ≡ 0) × (number row_bytes bs final_at ≡ 0)
no_bits bs good none =
    let p = good_check bs good in
    let i : number row_bytes bs (7 + 4 * 0) < 2 ^ 0 = subst (λ k. number row_bytes bs (7 + 4 * 0) < 2 ^ k) none (p.below 0 (omega arith)) in
    let j : number row_bytes bs (7 + 4 * 1) < 2 ^ 0 = subst (λ k. number row_bytes bs (7 + 4 * 1) < 2 ^ k) none (p.below 1 (omega arith)) in
    (omega arith, omega arith)

module _ (a : ℕ) (L : Language) (bs : List ℕ) (F : MinimalForm a L bs) where
  form_words : Same a L (language_of bs)
  form_words = minimal_accepts a L (automaton_of bs) F.basis F.minimal

  form_dimension : IsDimension a L (states_of bs)
  form_dimension = subst (IsDimension a L) (sym F.minimal.size) (minimal_dimension a L (automaton_of bs) F.basis F.minimal)

  form_least : (B : Automaton) → Same a L (accepts B) → states_of bs ≤ B.states
  form_least B same =
      let A = automaton_of bs in
      let own = minimal_same a L (accepts A) A F.basis form_words F.minimal in
      let d = dimension_unique a (accepts A) (length F.basis) (dimension_of a A) (minimal_dimension a (accepts A) A F.basis own) (dimension_of_lem a A) in
      omega (arith, F.minimal.size, d, dimension_least a A B (λ w ow. sym (form_words w ow) ∙ same w ow))

-- The form is one of the words.
pub form_same : (a : ℕ) (L K : Language) (bs : List ℕ) → Same a L K → MinimalForm a L bs → MinimalForm a K bs
form_same a L K bs same F = record {
  bytes = F.bytes;
  formed = F.formed;
  letters = F.letters;
  basis = F.basis;
  minimal = minimal_same a L K (automaton_of bs) F.basis same F.minimal;
}

-- What is read and written again is the record.
form_again : (a : ℕ) (L : Language) (bs : List ℕ) → MinimalForm a L bs → encode a (automaton_of bs) ≡ bs
form_again a L bs F = ap (λ x. encode x (automaton_of bs)) (sym F.letters) ∙ encode_automaton bs F.formed F.bytes

pub minimal_record : (a : ℕ) (L : Language) (bs : List ℕ) → MinimalForm a L bs → MinimalRecord a L bs
minimal_record a L bs F = record {
  form = F;
  words = form_words a L bs F;
  dimension = form_dimension a L bs F;
  least = form_least a L bs F;
  empty = λ e. let none : states_of bs ≡ 0 = omega (arith, form_least a L bs F stateless e) in let bits = no_bits bs F.formed none in (none, bits.0, bits.1);
  unique = λ K cs G. (
    λ e w ow. form_words a L bs F w ow ∙ ap (λ x. language_of x w) e ∙ sym (form_words a K cs G w ow),
    λ same. sym (form_again a L bs F)
        ∙ fields_encode a (automaton_of bs) (automaton_of cs)
        (bits_fields a (automaton_of bs) (automaton_of cs) (minimal_unique a L K (automaton_of bs) (automaton_of cs) F.basis G.basis same F.minimal G.minimal))
        ∙ form_again a K cs G,
  );
}

-- The dimension, over any letters, is at most the states of a record.
pub dimension_fits : (a : ℕ) (bs : List ℕ) → WellFormed bs → dimension_of a (automaton_of bs) ≤ max_states
dimension_fits a bs good = omega (arith, dimension_least a (automaton_of bs) (automaton_of bs) (λ w ow. refl), (good_check bs good).front.states)

-- ---- the record of a minimal automaton

module _ (a : ℕ) (some : 1 ≤ a) (few : a ≤ max_letters) where
  pub encode_form : (L : Language) (A : Automaton) (ws : List (List ℕ)) → A.states ≤ max_states → Minimal a L A ws → MinimalForm a L (encode a A)
  encode_form L A ws small M = record {
    bytes = bytes_encode a A small few;
    formed = check_encode a A small some few;
    letters = letters_encode a A;
    basis = ws;
    minimal = bits_minimal a L A (automaton_of (encode a A)) ws (bits_encode a A small) M;
  }

  -- The minimal automaton of the words of A, as a function gives it.
  pub minimal_encode : (L : Language) (A : Automaton) → Same a L (accepts A) → dimension_of a A ≤ max_states → MinimalRecord a L (encode a (minimal_of a A))
  minimal_encode L A same small =
      let ws = basis_words a A.states (accepts A) in
      minimal_record a L (encode a (minimal_of a A))
      (encode_form L (minimal_of a A) ws (omega (arith, minimal_states a A))
      (minimal_same a (accepts A) L (minimal_of a A) ws (same_sym a L (accepts A) same) (minimal_of_lem a A)))
