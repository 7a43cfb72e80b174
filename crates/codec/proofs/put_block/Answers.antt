-- `put_block`: the bytes of the rows passed are stored.
use mathlib.Core.Path.{refl, ◌∙◌}
use Prim.Native.Nat.{◌+◌, ◌*◌}
use native.Mathlib.Omega.{arith}
use Rattle.rows.specs.Table.{at}
use Rattle.record.specs.Record.{row_bytes, rows_at}
use Rattle.record.specs.Bytes.{all_bytes}
use Rattle.record.proofs.Stores.{row_stored}
use Rattle.codec.proofs.put_block.Goals as goal

pub loop-i-init : goal.loop-i-init
unfolding all_bytes
loop-i-init c = refl

pub loop-i-preserved : goal.loop-i-preserved
loop-i-preserved c =
    let a = c.args in
    c.put_field.ensures
    ∙ rw (c.loop-i.invariant, c.load.ensures)
    (row_stored row_bytes (at a.t.now a.l) a.buf.now (rows_at + row_bytes * (a.l * a.m.states)) c.loop-i.i (omega arith))
