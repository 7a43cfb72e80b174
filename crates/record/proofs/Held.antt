-- A record in memory: reading fills a machine and its table row by row, and what they hold is the record's automaton.
use mathlib.Core.Path.{◌≡◌, refl, sym, ap, ◌∙◌}
use mathlib.Core.List.{List, ◌++◌}
use Prim.Native.Nat.{ℕ, ◌+◌, ◌*◌, ◌≤◌, ◌<◌}
use native.Mathlib.Omega.{arith}
use native.Mathlib.Decide.{dec_le}
use lib.ListN.{length, drop}
use lib.Seq.{sets}
use Rattle.automata.specs.Mask.{bit_of}
use Rattle.automata.specs.Minimal.{SameBits}
use Rattle.automata.specs.Fields.{rows_of}
use Rattle.automata.proofs.Fields.{bits_fields}
use Rattle.rows.specs.declared.Machine.{Machine}
use Rattle.rows.specs.declared.Row.{Row}
use Rattle.rows.specs.Row.{width, mask}
use Rattle.rows.specs.Table.{blocks, at, stored}
use Rattle.rows.specs.Table.{size as table_size}
use Rattle.rows.specs.Machine.{automaton_in, Valid}
use Rattle.rows.proofs.TableLaws.{length_stored, stored_same, stored_block, stored_row}
use Rattle.record.specs.Bytes.{number, bytes_of, all_bytes, AllBelow}
use Rattle.record.specs.Record.{row_bytes, initial_at, final_at, rows_at, length_of, states_of, letters_of, row_at, head_of, encode, automaton_of, WellFormed}
use Rattle.record.specs.Held.{HeldUpTo, Holds}
use Rattle.record.proofs.Bytes.{length_bytes_of}
use Rattle.record.proofs.Stores.{runs, sets_front}
use Rattle.record.proofs.RowList.{row_lt}
use Rattle.record.proofs.Refusals.{Passed, good_check}
use Rattle.record.proofs.Encode.{row_below, fields_masks, fields_encode, encode_automaton, length_encode}

-- ---- reading

-- The row of letter l and state i lies within the record.
pub row_inside : (bs : List ℕ) → Passed bs → {n : ℕ} → n ≡ states_of bs → (l i : ℕ) → l < letters_of bs → i < n
    → rows_at + row_bytes * (l * n + i) + row_bytes ≤ length bs
row_inside bs p e l i hl hi =
    let w = p.whole in
    rw e (omega (arith, row_lt (letters_of bs) (states_of bs) l i hl (rw e at hi)))

pub filled_none : (bs t : List ℕ) → length t ≡ table_size → HeldUpTo bs t 0 0
filled_none bs t e = record { size = e; letters = λ k j hk hj. absurd (omega arith); states = λ j hj. absurd (omega arith) }

module _ (bs t : List ℕ) (l : ℕ) where
  pub filled_row : (i v : ℕ) → l < blocks → i < states_of bs → states_of bs ≤ width → v ≡ row_at bs l i → HeldUpTo bs t l i → HeldUpTo bs (stored t l i v) l (i + 1)
  filled_row i v hl hi small e f = record {
    size = length_stored t l i v ∙ f.size;
    letters = λ k j hk hj. stored_block t l i v k j (omega arith) (omega arith) (λ q. omega arith) ∙ f.letters k j hk hj;
    states = λ j hj. go j hj (dec_le i j);
  }
    where
      go : (j : ℕ) → j < i + 1 → Dec (i ≤ j) → at (stored t l i v) l j ≡ row_at bs l j
      go j hj (yes p) =
          let q : j ≡ i = omega arith in
          rw q (stored_same t l i v f.size hl (omega arith) ∙ e)
      go j hj (no p) = stored_row t l i v j (λ q. omega (arith, p)) ∙ f.states j (omega arith)

  pub filled_letter : HeldUpTo bs t l (states_of bs) → HeldUpTo bs t (l + 1) 0
  filled_letter f = record {
    size = f.size;
    letters = λ k j hk hj. go k j hk hj (dec_le l k);
    states = λ j hj. absurd (omega arith);
  }
    where
      go : (k j : ℕ) → k < l + 1 → j < states_of bs → Dec (l ≤ k) → at t k j ≡ row_at bs k j
      go k j hk hj (yes p) =
          let q : k ≡ l = omega arith in
          rw q (f.states j hj)
      go k j hk hj (no p) = f.letters k j (omega (arith, p)) hj

-- Every letter read: machine and table hold the record.
pub holds : (bs t : List ℕ) → WellFormed bs → HeldUpTo bs t (letters_of bs) 0 → {n a : ℕ} {i f : Row} → n ≡ states_of bs → a ≡ letters_of bs
    → mask i ≡ number row_bytes bs initial_at → mask f ≡ number row_bytes bs final_at → Holds bs t (record { states = n; letters = a; initial = i; finals = f })
holds bs t good full en ea ei ef =
    let p = good_check bs good in
    let h = p.front in
    record {
      states = en;
      letters = ea;
      initial = ei;
      finals = ef;
      rows = λ l i hl hi. full.letters l i (omega arith) (omega arith);
      valid = record {
        states = omega arith;
        letters = omega arith;
        size = full.size;
        initial = rw (ei, en) (p.below 0 (omega arith));
        finals = rw (ef, en) (p.below 1 (omega arith));
        rows = λ l i hl hi.
            let hl' : l < letters_of bs = omega arith in
            let hi' : i < states_of bs = omega arith in
            rw (full.letters l i hl' hi', en) (row_below bs p l i hl' hi');
      };
    }

-- ---- what is held

-- The automaton in memory has the bits of the record's.
pub bits_held : (bs t : List ℕ) (m : Machine) → Holds bs t m → SameBits (letters_of bs) (automaton_in t m) (automaton_of bs)
bits_held bs t m h = record {
  states = h.states;
  initial = λ k p. ap (λ x. bit_of x k) h.initial;
  final = λ k p. ap (λ x. bit_of x k) h.finals;
  step = λ l i j hl hi hj. ap (λ x. bit_of x j) (h.rows l i (omega (arith, h.letters)) hi);
}

-- Its record is the record that was read.
pub encode_held : (bs t : List ℕ) (m : Machine) → AllBelow 256 bs → WellFormed bs → Holds bs t m → encode m.letters (automaton_in t m) ≡ bs
encode_held bs t m byte good h =
    ap (λ a. encode a (automaton_in t m)) h.letters
    ∙ fields_encode (letters_of bs) (automaton_in t m) (automaton_of bs) (bits_fields (letters_of bs) (automaton_in t m) (automaton_of bs) (bits_held bs t m h))
    ∙ encode_automaton bs good byte

-- ---- writing

module _ (t : List ℕ) (m : Machine) (valid : Valid t m) where
  encode_machine : encode m.letters (automaton_in t m)
      ≡ head_of m.states m.letters
      ++ (bytes_of row_bytes (mask m.initial) ++ (bytes_of row_bytes (mask m.finals) ++ all_bytes row_bytes (rows_of m.letters m.states (at t))))
  unfolding encode all_bytes
  encode_machine =
      ap (λ fs. head_of m.states m.letters ++ all_bytes row_bytes (drop 1 fs))
      (fields_masks m.letters m.states (mask m.initial) (mask m.finals) (at t) valid.initial valid.finals valid.rows)

  -- The four runs of stores of a record leave it and the rest of the buffer.
  pub written : (buf : List ℕ) {b₁ b₂ b₃ b₄ : List ℕ} → length_of m.states m.letters ≤ length buf
      → b₁ ≡ sets buf 0 (head_of m.states m.letters)
      → b₂ ≡ sets b₁ initial_at (bytes_of row_bytes (mask m.initial))
      → b₃ ≡ sets b₂ final_at (bytes_of row_bytes (mask m.finals))
      → b₄ ≡ sets b₃ rows_at (all_bytes row_bytes (rows_of m.letters m.states (at t)))
      → b₄ ≡ encode m.letters (automaton_in t m) ++ drop (length_of m.states m.letters) buf
  written buf h e₁ e₂ e₃ e₄ =
      let out = encode m.letters (automaton_in t m) in
      let l : length out ≡ length_of m.states m.letters = length_encode m.letters (automaton_in t m) in
      let i = bytes_of row_bytes (mask m.initial) in
      let f = bytes_of row_bytes (mask m.finals) in
      let r = all_bytes row_bytes (rows_of m.letters m.states (at t)) in
      e₄
      ∙ rw (e₃, e₂, e₁)
      (sym (runs (head_of m.states m.letters) i f r buf refl (length_bytes_of row_bytes (mask m.initial)) (length_bytes_of row_bytes (mask m.finals)))
      ∙ ap (λ bs. sets buf 0 bs) (sym encode_machine)
      ∙ sets_front out buf (rw l h)
      ∙ rw l)
