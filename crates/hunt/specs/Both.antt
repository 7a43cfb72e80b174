-- Two records side by side: the direct sum of their automata.
--   beside_of bs cs     their rows: row k of letter l
--   Paired bs cs m      m has the sizes, the initial row and the final column of two well-formed records over the same letters
use Rattle.std.specs.Prelude.{◌≡◌, List, ℕ, ◌+◌, ◌*◌, ◌^◌}
use Rattle.std.specs.Int.Bits.{bit_xor}
use Rattle.rows.specs.declared.Machine.{Machine}
use Rattle.rows.specs.Row.{mask}
use Rattle.rows.specs.Beside.{beside}
use Rattle.record.specs.Bytes.{number}
use Rattle.record.specs.Record.{row_bytes, initial_at, final_at, states_of, letters_of, row_at, WellFormed}

abbrev pub beside_of : List ℕ → List ℕ → ℕ → ℕ → ℕ
beside_of bs cs = beside (row_at bs) (row_at cs) (states_of bs)

-- A field of the first beside the same field of the second, at offset p of each.
abbrev pub field_beside : List ℕ → List ℕ → ℕ → ℕ
field_beside bs cs p = bit_xor (number row_bytes bs p) (number row_bytes cs p * 2 ^ states_of bs)

pub record Paired (bs cs : List ℕ) (m : Machine) : Type 0 where
  pub first : WellFormed bs
  pub second : WellFormed cs
  pub same : letters_of bs ≡ letters_of cs
  pub states : m.states ≡ states_of bs + states_of cs
  pub letters : m.letters ≡ letters_of bs
  pub initial : mask m.initial ≡ field_beside bs cs initial_at
  pub finals : mask m.finals ≡ field_beside bs cs final_at
