-- `put_rows`: the bytes of the letters passed are stored.
use mathlib.Core.Path.{refl}
use Rattle.rows.specs.Table.{at}
use Rattle.record.specs.Record.{row_bytes, rows_at}
use Rattle.record.specs.Bytes.{all_bytes}
use Rattle.record.proofs.Stores.{letter_stored}
use Rattle.codec.proofs.put_rows.Goals as goal

pub loop-l-init : goal.loop-l-init
unfolding all_bytes
loop-l-init c = refl

pub loop-l-preserved : goal.loop-l-preserved
loop-l-preserved c =
    let a = c.args in
    rw (c.put_block.ensures, c.loop-l.invariant) (letter_stored row_bytes a.m.states (at a.t.now) a.buf.now rows_at c.loop-l.l)
