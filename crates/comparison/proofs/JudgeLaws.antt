-- What the search over two records side by side says of their languages.
use mathlib.Core.Path.{◌≡◌, sym, ap, subst, ◌∙◌}
use mathlib.Core.Bool.{◌&&◌, and_comm}
use mathlib.Core.List.{List}
use mathlib.Core.Option.{none}
use Prim.Native.Nat.{ℕ}
use native.Mathlib.Omega.{arith}
use Rattle.automata.specs.Automaton.{Automaton}
use Rattle.automata.specs.Mask.{bit_of}
use Rattle.automata.specs.FirstDifference.{first_difference}
use Rattle.automata.proofs.Xor.{xor_cong}
use Rattle.rows.specs.declared.Machine.{Machine}
use Rattle.rows.specs.Row.{mask}
use Rattle.rows.specs.Machine.{auto_by}
use Rattle.basis.specs.Basis.{bits}
use Rattle.trail.specs.declared.Step.{Step}
use Rattle.trail.specs.Trail.{from_in, by_in}
use Rattle.record.specs.Bytes.{number}
use Rattle.record.specs.Record.{row_bytes, final_at, states_of, letters_of, automaton_of}
use Rattle.hunt.specs.Both.{beside_of, Paired}
use Rattle.hunt.specs.Hunt.{shared, Hunting, Stopped}
use Rattle.verdict.specs.declared.Side.{Side}
use Rattle.verdict.specs.Side.{side_of}
use Rattle.verdict.specs.Judged.{Found}
use Rattle.comparison.proofs.Complete.{first_row_lem, row_word, row_side, no_row}
use Rattle.hunt.proofs.BothLaws.{paired_sizes, paired_thin, paired_bits}
use Rattle.hunt.proofs.HuntLaws.{stopped_bound}

module _ (bs cs : List ℕ) (m : Machine) (P : Paired bs cs m) where
  abbrev a : ℕ
  a = m.letters

  abbrev A : Automaton
  A = automaton_of bs

  abbrev B : Automaton
  B = automaton_of cs

  abbrev both : Automaton
  both = auto_by (beside_of bs cs) m.states (mask m.initial) (mask m.finals)

  -- Every pair is done and no row is accepted.
  pub judged_same : (σ : ℕ) (b : List ℕ) (w : List Step) (d p v : ℕ) → Hunting σ a (beside_of bs cs) m.states (mask m.initial) (mask m.finals) b w d d 0 p v → first_difference (letters_of bs) A B ≡ none
  judged_same σ b w d p v H = subst (λ x. first_difference x A B ≡ none) P.letters
      (no_row a both A B (paired_thin bs cs m P) (paired_bits bs cs m P) d d 0 (bit_of p) (bits σ b 1) (bits σ b 0) H.coef (from_in w) (by_in w) H.made H.search H.none)

  -- The search stopped at row r, which is x.
  pub judged_differs : (w : List Step) (r x : ℕ) (s : Side) → s ≡ side_of (shared (states_of bs) (number row_bytes bs final_at) x)
      → Stopped a (beside_of bs cs) m.states (mask m.initial) (mask m.finals) w r x → Found (letters_of bs) A B w r s
  judged_differs w r x s e H = subst (λ z. Found z A B w r s) P.letters (record {
    word = first_row_lem a both A B (paired_thin bs cs m P) (paired_bits bs cs m P) H.count H.upto H.next H.pivots H.rows H.base H.coef (from_in w) (by_in w) H.made H.inside.2 H.inside.1 H.search r H.inside.0 (xor_cong m.states (λ j g. ap (λ b. b && bit_of (mask m.finals) j) (H.row j)) ∙ H.found) H.first;
    side = e ∙ ap side_of (xor_cong (states_of bs) (λ j g. and_comm (bit_of (number row_bytes bs final_at) j) (bit_of x j) ∙ ap (λ b. b && bit_of (number row_bytes bs final_at) j) (sym (H.row j)))
        ∙ sym (row_side a both A B (paired_thin bs cs m P) (paired_bits bs cs m P) H.count H.upto H.next H.pivots H.rows H.base H.coef (from_in w) (by_in w) H.made H.inside.2 H.inside.1 H.search r H.inside.0));
    traced = record {
      small = omega (arith, stopped_bound a (beside_of bs cs) m.states (mask m.initial) (mask m.finals) w r x H, (paired_sizes bs cs m P).1);
      letters = (paired_sizes bs cs m P).2;
      parent = λ q p h. H.search.parent q p (omega (arith, H.inside.0));
      letter = λ q p h. H.search.letter q p (omega (arith, H.inside.0));
      word = λ q p h. row_word a both A B (paired_thin bs cs m P) (paired_bits bs cs m P) H.count H.upto H.next H.pivots H.rows H.base H.coef (from_in w) (by_in w) H.made H.inside.2 H.inside.1 H.search q p (omega (arith, H.inside.0));
    };
  })
