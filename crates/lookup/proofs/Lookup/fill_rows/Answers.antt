-- `fill_rows`: the groups below g are filled.
use Rattle.std.proofs.Common.{◌+◌, ◌*◌, arith, rules}
use Rattle.lookup.proofs.LookupLaws.{tabled_none, tabled_step}
use Rattle.lookup.proofs.Lookup.fill_rows.Goals as goal

pub loop-g-init : goal.loop-g-init
loop-g-init g c = (search rules, λ M G. tabled_none M c.args.self.now.entries)

pub put_group-requires : goal.put_group-requires
put_group-requires g c = (omega (arith, c.requires.0), c.loop-g.invariant.0, λ i h. c.requires.1 (c.loop-g.g * 4 + i) (omega arith))

pub loop-g-preserved : goal.loop-g-preserved
loop-g-preserved g c = (c.put_group.ensures.0, λ M G. tabled_step c.loop-g.g M c.loop-g.self.entries c.put_group.new.tab (c.loop-g.invariant.1 M G) (c.put_group.ensures.1 M G))
