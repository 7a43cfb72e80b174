-- `join_records`: the tables that were read hold the records' automata, which together have as many states as a row has bits.
use mathlib.Core.Path.{sym, ◌∙◌}
use native.Mathlib.Omega.{arith}
use Rattle.record.proofs.Refusals.{good_check}
use Rattle.operations.proofs.BuiltLaws.{join_held}
use Rattle.operations.proofs.join_records.Goals as goal

pub join-requires : goal.join-requires
join-requires g c =
    let x = c.read-g.ensures in
    let y = c.read-h.ensures in
    let f = (good_check _ c.args.pair.first.well_formed).front in
    let k = (good_check _ c.args.pair.second.well_formed).front in
    (x.valid, y.valid, y.letters ∙ c.args.pair.alike ∙ sym x.letters, omega arith, omega arith)

pub returns : goal.returns
returns g c =
    let x = c.read-g in
    let y = c.read-h in (
      join_held _ g.met.O.Binary.same _ _ x.new.t y.new.t c.join.new.t x.result y.result c.join.result (sym c.args.pair.alike) x.ensures y.ensures c.join.ensures,
      y.ensures.valid.size,
    )
