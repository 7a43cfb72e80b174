-- Each entry is minimal: antt computes the minimal automaton and the basis words of all six, and they are the entry and its list.
use mathlib.Core.Path.{◌≡◌, refl, sym, subst}
use Prim.Native.Nat.{ℕ, ◌≤◌}
use native.Mathlib.Omega.{arith}
use Rattle.automata.specs.Automaton.{Automaton, accepts}
use Rattle.automata.specs.Minimal.{Minimal}
use Rattle.automata.specs.MinimalOf.{basis_words, minimal_of}
use Rattle.automata.specs.Fields.{fields}
use Rattle.automata.proofs.Minimal.{minimal_same, same_sym, bits_minimal}
use Rattle.automata.proofs.MinimalOf.{minimal_of_lem}
use Rattle.automata.proofs.Fields.{fields_bits}
use Rattle.catalogue.specs.Words.{entry_words}
use Rattle.catalogue.specs.Entries.{last, letters_at, entry_of, basis_at}
use Rattle.catalogue.proofs.Table.{each}
use Rattle.catalogue.proofs.Words.{entry_words_lem}

module _ (j : ℕ) (h : j ≤ last) where
  entry_fields : fields (letters_at j) (minimal_of (letters_at j) (entry_of j)) ≡ fields (letters_at j) (entry_of j)
  unfolding letters_at entry_of minimal_of basis_words
  entry_fields = each 6 (λ j. fields (letters_at j) (minimal_of (letters_at j) (entry_of j))) (λ j. fields (letters_at j) (entry_of j)) refl j (omega arith)

  entry_basis : basis_words (letters_at j) (entry_of j).states (accepts (entry_of j)) ≡ basis_at j
  unfolding letters_at entry_of basis_at basis_words
  entry_basis = each 6 (λ j. basis_words (letters_at j) (entry_of j).states (accepts (entry_of j))) basis_at refl j (omega arith)

  pub entry_minimal : Minimal (letters_at j) (entry_words j) (entry_of j) (basis_at j)
  entry_minimal =
      let a : ℕ = letters_at j in
      let A : Automaton = entry_of j in
      minimal_same a (accepts A) (entry_words j) A (basis_at j) (same_sym a (entry_words j) (accepts A) (entry_words_lem j h))
      (subst (Minimal a (accepts A) A) entry_basis
      (bits_minimal a (accepts A) (minimal_of a A) A (basis_words a A.states (accepts A)) (fields_bits a A (minimal_of a A) (sym entry_fields)) (minimal_of_lem a A)))
