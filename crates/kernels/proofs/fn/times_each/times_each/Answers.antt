-- The closure of `times_each` reads a row of a block that there is.
use Rattle.std.proofs.Common.{◌<◌, arith}
use Rattle.std.proofs.lemmas.List.Elements.{All-get_or}
use Rattle.rows.specs.Table.{blocks}
use Rattle.kernels.proofs.fn.times_each.times_each.Goals as goal

pub load-requires : goal.load-requires
load-requires g c = let r = c.requires in (All-get_or (λ b. b < blocks) c.captures.l c.args.k 0 (omega (arith, r.0, r.2)) r.3, r.4)
