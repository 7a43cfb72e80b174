-- Two records side by side: their sizes are within bounds, and they have the bits of the direct sum.
use mathlib.Core.Path.{◌≡◌}
use mathlib.Core.Bool.{false}
use mathlib.Core.List.{List}
use Prim.Native.Nat.{ℕ, ◌^◌, ◌<◌, ◌≤◌}
use native.Mathlib.Omega.{arith}
use Rattle.automata.specs.Mask.{bit_of}
use Rattle.automata.specs.Minimal.{SameBits}
use Rattle.automata.specs.Operations.{sum_of}
use Rattle.rows.specs.declared.Machine.{Machine}
use Rattle.rows.specs.Row.{width, mask}
use Rattle.rows.specs.Table.{blocks}
use Rattle.rows.specs.Machine.{auto_by}
use Rattle.rows.proofs.BitLaws.{bit_high}
use Rattle.rows.proofs.DirectSum.{pair_lt, beside_lt, beside_bits}
use Rattle.record.specs.Bytes.{number}
use Rattle.record.specs.Record.{row_bytes, initial_at, final_at, states_of, letters_of, row_at, WellFormed, automaton_of}
use Rattle.record.proofs.Refusals.{good_check}
use Rattle.record.proofs.Encode.{row_below}
use Rattle.hunt.specs.Both.{beside_of, Paired}

-- I and F of a well-formed record have no bit at its number of states or above.
pub field_below : (bs : List ℕ) → WellFormed bs → (number row_bytes bs initial_at < 2 ^ states_of bs) × (number row_bytes bs final_at < 2 ^ states_of bs)
field_below bs good = let p = good_check bs good in (p.below 0 (omega arith), p.below 1 (omega arith))

module _ (bs cs : List ℕ) (m : Machine) (P : Paired bs cs m) where
  pub paired_sizes : (states_of bs ≤ 32) × (m.states ≤ width) × (m.letters ≤ blocks)
  paired_sizes =
      let f = (good_check bs P.first).front in
      let g = (good_check cs P.second).front in
      (f.states, omega (arith, P.states, f.states, g.states), omega (arith, P.letters, f.letters))

  first_rows : (l k : ℕ) → l < letters_of bs → k < states_of bs → row_at bs l k < 2 ^ states_of bs
  first_rows = row_below bs (good_check bs P.first)

  second_rows : (l k : ℕ) → l < letters_of bs → k < states_of cs → row_at cs l k < 2 ^ states_of cs
  second_rows l k h g = row_below cs (good_check cs P.second) l k (omega (arith, P.same)) g

  pub paired_rows : (l k : ℕ) → l < m.letters → k < m.states → beside_of bs cs l k < 2 ^ m.states
  paired_rows l k h g = rw P.states (beside_lt (letters_of bs) (row_at bs) (states_of bs) (row_at cs) (states_of cs) first_rows second_rows l k (omega (arith, P.letters)) (omega (arith, P.states)))

  pub paired_initial : mask m.initial < 2 ^ m.states
  paired_initial = rw (P.states, P.initial) (pair_lt (states_of bs) (states_of cs) (number row_bytes bs initial_at) (number row_bytes cs initial_at) (field_below bs P.first).0 (field_below cs P.second).0)

  -- No row of the two has a bit at their number of states or above.
  pub paired_thin : (l k j : ℕ) → l < m.letters → k < m.states → m.states ≤ j → bit_of (beside_of bs cs l k) j ≡ false
  paired_thin l k j hl hk h = bit_high m.states (paired_rows l k hl hk) j h

  pub paired_bits : SameBits m.letters (auto_by (beside_of bs cs) m.states (mask m.initial) (mask m.finals)) (sum_of (automaton_of bs) (automaton_of cs))
  paired_bits = rw (P.states, P.letters, P.initial, P.finals) (beside_bits (letters_of bs) (row_at bs) (states_of bs) (row_at cs) (states_of cs) first_rows
      (number row_bytes bs initial_at) (number row_bytes bs final_at) (number row_bytes cs initial_at) (number row_bytes cs final_at) (field_below bs P.first).0 (field_below bs P.first).1)
