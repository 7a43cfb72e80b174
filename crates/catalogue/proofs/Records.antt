-- The entries' records: well formed, and each the minimal record of the entry's words.
use mathlib.Core.Path.{◌≡◌, refl, ap, ◌∙◌}
use mathlib.Core.Bool.{true}
use mathlib.Core.List.{List}
use Prim.Native.Nat.{ℕ, ◌≤◌}
use native.Mathlib.Omega.{arith}
use lib.Dec.{leb}
use borrow.Author.Tests.{leb-true}
use Rattle.automata.proofs.Fields.{bits_fields}
use Rattle.rows.specs.declared.Machine.{Machine}
use Rattle.rows.specs.Machine.{automaton_in}
use Rattle.record.specs.Record.{max_states, max_letters, automaton_of, encode}
use Rattle.record.specs.Claims.{MinimalRecord}
use Rattle.record.specs.Held.{Holds}
use Rattle.record.proofs.Refusals.{Front, good_check}
use Rattle.record.proofs.Encode.{bits_encode, fields_encode}
use Rattle.record.proofs.Claims.{minimal_record, encode_form}
use Rattle.record.proofs.Held.{bits_held}
use Rattle.catalogue.specs.Words.{entry_words}
use Rattle.catalogue.specs.Entries.{last, letters_at, entry_of, basis_at, record_of}
use Rattle.catalogue.proofs.Table.{each}
use Rattle.catalogue.proofs.Minimal.{entry_minimal}

module _ (j : ℕ) (h : j ≤ last) where
  small : (entry_of j).states ≤ max_states
  unfolding entry_of
  small = leb-true (entry_of j).states max_states (each 6 (λ j. leb (entry_of j).states max_states) (λ j. true) refl j (omega arith))

  some : 1 ≤ letters_at j
  unfolding letters_at
  some = leb-true 1 (letters_at j) (each 6 (λ j. leb 1 (letters_at j)) (λ j. true) refl j (omega arith))

  most : letters_at j ≤ max_letters
  unfolding letters_at
  most = leb-true (letters_at j) max_letters (each 6 (λ j. leb (letters_at j) max_letters) (λ j. true) refl j (omega arith))

  pub record_claims : MinimalRecord (letters_at j) (entry_words j) (record_of j)
  unfolding record_of
  record_claims = minimal_record (letters_at j) (entry_words j) (record_of j) (encode_form (letters_at j) some most (entry_words j) (entry_of j) (basis_at j) small (entry_minimal j h))

  pub record_bounds : Front (record_of j)
  record_bounds = (good_check (record_of j) record_claims.form.formed).front

  -- What holds the record in memory is written as the record.
  pub encode_loaded : (t : List ℕ) (m : Machine) → Holds (record_of j) t m → encode m.letters (automaton_in t m) ≡ record_of j
  unfolding record_of encode
  encode_loaded t m held =
      let a : ℕ = letters_at j in
      ap (λ a. encode a (automaton_in t m)) held.letters
      ∙ fields_encode a (automaton_in t m) (entry_of j)
      (bits_fields a (automaton_in t m) (automaton_of (record_of j)) (bits_held (record_of j) t m held)
      ∙ bits_fields a (automaton_of (record_of j)) (entry_of j) (bits_encode a (entry_of j) small))
