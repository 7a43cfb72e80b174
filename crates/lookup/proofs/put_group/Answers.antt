-- `put_group`: the rows before i have doubled the entries.
use Rattle.std.proofs.Common.{◌+◌, ◌*◌, ◌%◌, ◌^◌, ◌≤◌, length-set, arith, ◌∙◌}
use lib.Pow.{pow_mono}
use Rattle.rows.proofs.BitLaws.{unit_mask}
use Rattle.lookup.proofs.LookupLaws.{doubling_none, doubling_step}
use Rattle.lookup.proofs.put_group.Goals as goal

pub loop-i-init : goal.loop-i-init
loop-i-init g c = (length-set c.args.tab.now (c.args.g * 16) 0 ∙ c.requires.1, λ M G. doubling_none c.args.g M c.args.tab.now (omega (arith, c.requires.0, c.requires.1)))

pub double-requires : goal.double-requires
double-requires g c =
    let i = c.loop-i.i in
    let e = unit_mask 64 i (omega arith) in
    let b : 2 ^ i ≤ 2 ^ 3 = pow_mono (let h : i ≤ 3 = omega arith in h) in
    (omega (arith, e, b, c.requires.0), c.loop-i.invariant.0)

pub loop-i-preserved : goal.loop-i-preserved
loop-i-preserved g c =
    let a = c.args in
    let i = c.loop-i.i in (
      c.double.ensures.size ∙ c.loop-i.invariant.0,
      λ M G. doubling_step a.g i ((1 * 2 ^ i) % 2 ^ 64) _ M a.tab.now c.loop-i.tab c.double.new.tab (omega arith) (unit_mask 64 i (omega arith))
          (G.row (a.g * 4 + i) c.row.result (omega (arith, c.requires.0)) c.row.ensures) c.double.ensures (c.loop-i.invariant.1 M G),
    )
