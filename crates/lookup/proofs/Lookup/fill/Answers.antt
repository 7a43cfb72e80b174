-- `fill`: the rows are those that p chooses, and its span says how many groups there are.
use Rattle.std.proofs.Common.{◌*◌, ◌/◌, ◌+◌, ◌≤◌, arith, rules}
use native.Mathlib.Nat.{lt_of_lt_of_le}
use lib.Pow.{pow_mono}
use Rattle.rows.specs.Row.{mask}
use Rattle.basis.specs.Basis.{cell}
use Rattle.lookup.specs.Lookup.{chosen}
use Rattle.lookup.proofs.Lookup.fill.Goals as goal

pub returns : goal.returns
returns c =
    let a = c.args in
    let q = c.span in
    let e = c.fill_rows.ensures in
    let up : q.result ≤ (q.result + 3) / 4 * 4 = omega arith in
    rw e.0 (lt_of_lt_of_le q.ensures.1 (pow_mono up), e.1 (chosen (mask a.p) (cell a.stride a.b.now a.l)) (record { row = λ i r h p. search rules }))
