-- `are_kept`: the products stand in a line.
use Rattle.hunt.proofs.BothLaws.{paired_sizes}
use Rattle.search.proofs.are_kept.Goals as goal

pub keeps-requires : goal.keeps-requires
keeps-requires c =
    (paired_sizes c.args.first.now c.args.second.now c.args.m c.requires.0).2
