-- The closure of `times_each` reads a row of a block that there is.
use Rattle.std.proofs.Common.{◌<◌, arith}
use Rattle.std.proofs.lemmas.List.Elements.{All-get_or}
use Rattle.basis.specs.Basis.{parts}
use Rattle.basis.proofs.fn.times_each.times_each.Goals as goal

pub get-requires : goal.get-requires
get-requires g c = let r = c.requires in (r.0, All-get_or (λ b. b < parts) c.captures.l c.args.k 0 (omega (arith, r.1, r.3)) r.4, r.5)
