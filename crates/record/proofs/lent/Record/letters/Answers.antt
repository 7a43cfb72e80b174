-- `letters`: a record that passes rows 1 to 5 has the byte.
use native.Mathlib.Omega.{arith}
use Rattle.record.proofs.Refusals.{good_check}
use Rattle.record.proofs.lent.Record.letters.Goals as goal

pub bounds-self-6 : goal.bounds-self-6
bounds-self-6 c = let f = (good_check _ c.args.self.well_formed).front in omega (arith, f.long)

pub returns-clause-bound : goal.returns-clause-bound
returns-clause-bound c =
    let f = (good_check _ c.args.self.well_formed).front in
    (omega (arith, f.some, c.from.ensures), omega (arith, f.letters, c.from.ensures))
