-- A record in memory: a machine, and a lent table for its rows.
--   HeldUpTo bs t l i    the table has the record's rows up to, not including, that of letter l and state i
--   Holds bs t m         machine and table have all that the record has
use Rattle.std.specs.Prelude.{◌≡◌, List, ℕ, ◌<◌, length}
use Rattle.rows.specs.declared.Machine.{Machine}
use Rattle.rows.specs.Row.{mask}
use Rattle.rows.specs.Table.{size, at}
use Rattle.rows.specs.Machine.{Valid}
use Rattle.record.specs.Bytes.{number}
use Rattle.record.specs.Record.{row_bytes, initial_at, final_at, states_of, letters_of, row_at}

pub record HeldUpTo (bs t : List ℕ) (l i : ℕ) : Type 0 where
  pub size : length t ≡ size
  pub letters : (k j : ℕ) → k < l → j < states_of bs → at t k j ≡ row_at bs k j
  pub states : (j : ℕ) → j < i → at t l j ≡ row_at bs l j

pub record Holds (bs t : List ℕ) (m : Machine) : Type 0 where
  pub states : m.states ≡ states_of bs
  pub letters : m.letters ≡ letters_of bs
  pub initial : mask m.initial ≡ number row_bytes bs initial_at
  pub finals : mask m.finals ≡ number row_bytes bs final_at
  pub rows : (l i : ℕ) → l < m.letters → i < m.states → at t l i ≡ row_at bs l i
  pub valid : Valid t m
