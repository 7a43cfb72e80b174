-- `load_block`: the entry has a row for each state of the letter.
use mathlib.Core.Path.{◌∙◌}
use Prim.Native.Nat.{◌+◌, ◌*◌, ◌<◌}
use native.Mathlib.Omega.{arith}
use lib.ListN.{length}
use Rattle.rows.specs.Row.{mask}
use Rattle.record.proofs.Held.{filled_row}
use Rattle.catalogue.specs.Entries.{record_of}
use Rattle.catalogue.proofs.Columns.{row_within, row_told}
use Rattle.catalogue.proofs.Records.{record_bounds}
use Rattle.catalogue.proofs.load_block.Goals.{In-loop-i}
use Rattle.catalogue.proofs.load_block.Goals as goal

inside : (c : In-loop-i) → c.args.l * c.of-e.result.states + c.loop-i.i < length c.of-e.result.rows.now
inside c = row_within _ _ c.of-e.ensures _ _ c.requires.1 c.loop-i-test.true

pub overflow_mul-l : goal.overflow_mul-l
overflow_mul-l c = omega (arith, inside (goal.at.overflow_mul-l c).In-loop-i)

pub overflow_add-l : goal.overflow_add-l
overflow_add-l c = omega (arith, inside (goal.at.overflow_add-l c).In-loop-i)

pub offset_bounds-e-l : goal.offset_bounds-e-l
offset_bounds-e-l c = omega (arith, inside (goal.at.offset_bounds-e-l c).In-loop-i)

pub bounds-e-l : goal.bounds-e-l
bounds-e-l c = inside (goal.at.bounds-e-l c).In-loop-i

pub store-requires : goal.store-requires
store-requires c = let f = record_bounds c.args.j c.requires.0 in (omega (arith, c.requires.1), omega arith)

pub loop-i-preserved : goal.loop-i-preserved
loop-i-preserved c =
    let v = c.loop-i in
    let e = c.of-e in
    let f = record_bounds c.args.j c.requires.0 in
    rw c.store.ensures
    (filled_row (record_of c.args.j) v.t c.args.l v.i (mask c.from_u64.result) (omega (arith, c.requires.1)) (omega arith) (omega arith)
    (c.from_u64.ensures ∙ row_told _ _ e.ensures _ _ c.requires.1 c.loop-i-test.true) v.invariant)
