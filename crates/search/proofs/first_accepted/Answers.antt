-- `first_accepted`: from the initial row on.
use Rattle.rows.specs.Row.{mask}
use Rattle.hunt.specs.Both.{beside_of}
use Rattle.hunt.proofs.BothLaws.{paired_sizes, paired_initial}
use Rattle.hunt.proofs.HuntLaws.{hunting_start}
use Rattle.search.proofs.first_accepted.Goals as goal

pub start-s-requires : goal.start-s-requires
start-s-requires c =
    let a = c.args in
    let bs = a.first.now in
    let cs = a.second.now in
    ((paired_sizes bs cs a.m c.requires.0).1, c.requires.1, paired_initial bs cs a.m c.requires.0, c.requires.2)

pub try_rows-requires : goal.try_rows-requires
try_rows-requires c =
    let a = c.args in
    let m = a.m in
    let q = c.start-s in
    let r = q.result in
    let S = q.ensures in
    (c.requires.0, hunting_start a.stride m.letters (beside_of a.first.now a.second.now) m.states (mask m.initial) (mask m.finals) S.coef S.coef' S.made a.b.now q.new.b a.w.now r.count (mask r.pivots) (mask r.used) S.placed c.requires.2 c.requires.1 c.requires.3 c.requires.4)
