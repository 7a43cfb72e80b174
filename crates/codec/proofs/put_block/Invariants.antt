-- `put_block`: the bytes of the rows passed are stored.
use mathlib.Core.Path.{◌≡◌}
use mathlib.Core.List.{[], ◌∷◌}
use Prim.Native.Nat.{◌+◌, ◌*◌}
use lib.Seq.{sets}
use Rattle.automata.specs.WordList.{join_below}
use Rattle.rows.specs.Table.{at}
use Rattle.record.specs.Record.{row_bytes, rows_at}
use Rattle.record.specs.Bytes.{all_bytes}
use Rattle.codec.proofs.put_block.Given as goal

abbrev pub invariant-loop-i : goal.invariant-loop-i
invariant-loop-i l = l.buf ≡ sets l.initial.buf (rows_at + row_bytes * l.first) (all_bytes row_bytes (join_below l.i (λ j. at l.t l.l j ∷ [])))
