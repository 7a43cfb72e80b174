-- `repeat`: the rows renewed, the new state initial and final.
use mathlib.Core.Path.{refl, ap, ◌∙◌}
use lib.Bits.{bit_xor}
use Rattle.rows.specs.Row.{mask}
use Rattle.star.proofs.BuiltLaws.{star_built}
use Rattle.star.proofs.repeat.Goals as goal

pub returns : goal.returns
returns c =
    let a = c.args in
    let o = c.renew_rows in
    let u = c.unit-new in
    star_built a.t.now o.new.t a.g c.requires.0 c.requires.1 o.ensures _ refl refl u.ensures (c.xor-finals.ensures ∙ ap (bit_xor (mask a.g.finals)) u.ensures)
