-- `try_powers`: the initial row is inserted in an empty basis.
use Prim.Native.Nat.{◌<◌, ◌≤◌}
use native.Mathlib.Omega.{arith}
use borrow.Author.Rules.{rules}
use lib.ListN.{length}
use Rattle.rows.specs.Row.{width, mask}
use Rattle.hunt.proofs.BothLaws.{paired_sizes}
use Rattle.triangular.proofs.SpanLaws.{triangular_start}
use Rattle.unary.proofs.TryLaws.{row_fits, initial_fits, trying_start}
use Rattle.unary.proofs.try_powers.Goals as goal

pub insert-pivots-requires : goal.insert-pivots-requires
insert-pivots-requires c =
    let a = c.args in
    (rw c.none.ensures (triangular_start a.e.now), initial_fits a.first.now a.second.now a.m c.requires.3.paired (length a.e.now) c.requires.2)

pub try_lengths-requires : goal.try_lengths-requires
try_lengths-requires c =
    let a = c.args in
    let i = c.insert-pivots in
    let P = c.requires.3.paired in
    let I = rw c.none.ensures at i.ensures in
    let T = trying_start a.first.now a.second.now a.m P a.w.now a.e.now i.new.e (mask a.z) (mask i.result) I c.requires.4 in
    let from : 1 ≤ c.min-short.result = omega arith in
    let to : c.min-short.result < a.m.states = omega arith in
    search rules

-- The row has its place in a row's width.
pub table_pays-requires : goal.table_pays-requires
table_pays-requires c =
    let a = c.args in
    let P = c.requires.3.paired in
    (P.first, row_fits a.first.now a.second.now a.m P c.try_lengths.new.w c.try_lengths.new.e c.min-short.result (mask c.in_ok-t.t.row) width c.in_ok-t.ensures.powers (paired_sizes a.first.now a.second.now a.m P).1)
