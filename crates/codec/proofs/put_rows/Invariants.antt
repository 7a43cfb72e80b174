-- `put_rows`: the bytes of the letters passed are stored.
use mathlib.Core.Path.{◌≡◌}
use lib.Seq.{sets}
use Rattle.automata.specs.Fields.{rows_of}
use Rattle.rows.specs.Table.{at}
use Rattle.record.specs.Record.{row_bytes, rows_at}
use Rattle.record.specs.Bytes.{all_bytes}
use Rattle.codec.proofs.put_rows.Given as goal

abbrev pub invariant-loop-l : goal.invariant-loop-l
invariant-loop-l l = l.buf ≡ sets l.initial.buf rows_at (all_bytes row_bytes (rows_of l.l l.m.states (at l.t)))
