-- `add`: the basis rows that have the new pivot are changed, then the new rows are stored.
use mathlib.Core.Path.{refl, ap, ◌∙◌}
use native.Mathlib.Omega.{arith}
use lib.Bits.{bit_xor}
use Rattle.rows.specs.Row.{mask}
use Rattle.elimination.proofs.PlaceLaws.{added_turn}
use Rattle.elimination.proofs.add.Goals as goal

pub returns : goal.returns
returns c =
    let a = c.args in (
      added_turn a.stride a.n a.s.count (mask a.s.pivots) a.q (mask a.x) (mask a.y) a.b.now c.spread.new.b c.put.new.b c.put-2.new.b
          c.requires.1 (omega (arith, c.requires.1, c.requires.2)) (omega (arith, c.requires.1, c.requires.3)) c.requires.4 c.spread.ensures c.put.ensures c.put-2.ensures,
      refl,
      c.xor.ensures ∙ ap (bit_xor (mask a.s.pivots)) c.unit.ensures,
      c.or.ensures,
    )
