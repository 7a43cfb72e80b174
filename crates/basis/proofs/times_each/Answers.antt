-- `times_each`: the row read at k and i is row i of the block named for k.
use Rattle.std.proofs.Common.{rules, get_or, arith}
use Rattle.rows.proofs.BitLaws.{bit_below}
use Rattle.basis.specs.Basis.{cell}
use Rattle.basis.proofs.times_each.Goals as goal

pub times_each-requires : goal.times_each-requires
times_each-requires g c =
    let r = c.requires in (omega (arith, r.1), (omega (arith, r.1), λ k i h w b. (omega (arith, r.1), (r.0, h, r.1, search rules, r.2, bit_below c.args.stride r.3 i b))))

pub returns : goal.returns
returns g c = λ k n h f. c.times_each.ensures (λ k. cell c.args.stride c.args.b.now (get_or c.args.l k 0)) (record { row = λ k i r f g p. search rules }) k n h f
