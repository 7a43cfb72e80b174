-- `try_lengths`: t has the row of k letters, no word of up to k letters is accepted by just one, and the basis is spanned by the rows before it.
use mathlib.Core.Path.{◌≡◌, ◌∙◌}
use mathlib.Core.Bool.{true, false}
use Prim.Native.Nat.{◌+◌, ◌<◌}
use native.Mathlib.Omega.{arith}
use lib.ListN.{length}
use Rattle.rows.specs.Row.{mask}
use Rattle.rows.specs.Product.{product}
use Rattle.record.specs.Record.{states_of}
use Rattle.hunt.specs.Both.{beside_of}
use Rattle.hunt.proofs.BothLaws.{paired_sizes}
use Rattle.verdict.proofs.RowLaws.{side_told}
use Rattle.unary.proofs.PowerLaws.{powers_told, powers_found, powers_next}
use Rattle.unary.proofs.TryLaws.{row_fits, trying_next, trying_old, same_row}
use Rattle.unary.proofs.try_lengths.Goals.{After-times-y}
use Rattle.unary.proofs.try_lengths.Goals as goal

pub insert-p-requires : goal.insert-p-requires
insert-p-requires g c =
    let v = c.loop-k in
    let a = c.args in
    (v.invariant.1.shape, rw v.invariant.0 (row_fits a.first.now a.second.now a.m c.requires.4.paired v.w v.e v.k (mask v.t.row) (length a.e.now) v.invariant.1.powers c.requires.1))

pub returns-then-eq : goal.returns-then-eq
returns-then-eq g c =
    let a = c.args in
    let v = c.loop-k in
    let i = c.insert-p in
    trying_old a.first.now a.second.now a.m c.requires.4.paired v.w v.k (mask v.t.row) (mask v.t.pivots) v.e v.invariant.1 (mask i.result) i.new.e i.ensures c.requires.0
    (same_row i.result v.t.pivots c.eq.result c.eq.ensures c.if-eq.true)

pub link-requires : goal.link-requires
link-requires g c =
    let a = c.args in
    let z = (paired_sizes a.first.now a.second.now a.m c.requires.4.paired).1 in
    (omega (arith, c.loop-k-test.true), omega (arith, c.loop-k-test.true), omega arith)

-- What `times` gives is the product with the two side by side.
made : (g : _) (c : After-times-y g) → mask c.times-y.result ≡ product (states_of c.args.first.now + states_of c.args.second.now) (mask c.loop-k.t.row) (beside_of c.args.first.now c.args.second.now 0)
made g c = (c.requires.6 c.loop-k.t.row c.loop-k.invariant.1.powers.row.below).1 c.times-y.result c.times-y.ensures

pub returns-then-parity : goal.returns-then-parity
returns-then-parity g c =
    let a = c.args in
    let m = a.m in
    let bs = a.first.now in
    let cs = a.second.now in
    let U = c.requires.4 in
    let v = c.loop-k in
    let y = mask c.times-y.result in
    let l = c.link in
    let h : v.k + 1 < m.states = omega (arith, c.loop-k-test.true) in
    let e = made g (goal.at.returns-then-parity g c).After-times-y in
    let R = v.invariant.1.powers in
    rw c.parted.ensures.row (powers_found bs cs m U.paired c.requires.0 v.w v.k (mask v.t.row) R h y e l.new.w l.ensures
    c.parted.result.side (side_told bs U.paired.first (mask a.g) y c.parted.result.side U.column c.parted.ensures.side) (powers_told bs cs m U.paired c.requires.0 v.w v.k (mask v.t.row) R h y e l.new.w l.ensures c.parity.result true c.parity.ensures c.if-parity.true))

pub loop-k-preserved : goal.loop-k-preserved
loop-k-preserved g c =
    let a = c.args in
    let m = a.m in
    let bs = a.first.now in
    let cs = a.second.now in
    let P = c.requires.4.paired in
    let v = c.loop-k in
    let y = mask c.times-y.result in
    let i = c.insert-p in
    let l = c.link in
    let h : v.k + 1 < m.states = omega (arith, c.loop-k-test.true) in
    let e = made g (goal.at.loop-k-preserved g c).After-times-y in
    let R = v.invariant.1.powers in (
      i.ensures.size ∙ v.invariant.0,
      trying_next bs cs m P v.w v.k (mask v.t.row) (mask v.t.pivots) v.e v.invariant.1 (mask i.result) i.new.e i.ensures l.new.w y
          (powers_next bs cs m P c.requires.0 v.w v.k (mask v.t.row) R h y e l.new.w l.ensures (powers_told bs cs m P c.requires.0 v.w v.k (mask v.t.row) R h y e l.new.w l.ensures c.parity.result false c.parity.ensures c.if-parity.false)),
    )

pub returns : goal.returns
returns g c =
    let v = c.loop-k in
    let e : v.k ≡ c.args.last = omega arith in
    rw e at v.invariant.1
