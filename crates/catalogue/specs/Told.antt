-- An entry of the source's table, for the contracts of inner functions.
--   Tells e bs    the entry has the sizes, the initial row, the final column and the matrix rows of the record
use Rattle.std.specs.Prelude.{◌≡◌, List, ℕ}
use Rattle.automata.specs.Fields.{rows_of}
use Rattle.record.specs.Bytes.{number}
use Rattle.record.specs.Record.{row_bytes, initial_at, final_at, states_of, letters_of, row_at}
use Rattle.catalogue.specs.declared.Entry.{Entry}

pub record Tells (e : Entry) (bs : List ℕ) : Type 0 where
  pub states : e.states ≡ states_of bs
  pub letters : e.letters ≡ letters_of bs
  pub initial : e.initial ≡ number row_bytes bs initial_at
  pub finals : e.finals ≡ number row_bytes bs final_at
  pub rows : e.rows.now ≡ rows_of (letters_of bs) (states_of bs) (row_at bs)
