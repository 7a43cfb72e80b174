-- The rows of two records side by side, as many as a table may ask for.
--   row_beside bs cs l i   row i of letter l; no bits where there is no such state
use Rattle.std.specs.Prelude.{cond, List, ℕ, ◌+◌, ltb}
use Rattle.rows.specs.Beside.{beside}
use Rattle.record.specs.Record.{states_of, row_at}

abbrev pub row_beside : List ℕ → List ℕ → ℕ → ℕ → ℕ
row_beside bs cs l i = cond (ltb i (states_of bs + states_of cs)) (beside (row_at bs) (row_at cs) (states_of bs) l i) 0
