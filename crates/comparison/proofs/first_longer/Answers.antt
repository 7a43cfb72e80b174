-- `first_longer`: two records have no more states together than a row has bits.
use native.Mathlib.Omega.{arith}
use Rattle.hunt.proofs.BothLaws.{paired_sizes}
use Rattle.comparison.proofs.first_longer.Goals as goal

pub search_in-requires : goal.search_in-requires
search_in-requires c =
    let a = c.args in
    ((paired_sizes a.first.now a.second.now a.m c.requires.paired).1, omega arith, c.requires)
