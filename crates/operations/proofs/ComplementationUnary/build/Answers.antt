-- The complement: beside an automaton that accepts every word.
use Rattle.rows.specs.Row.{mask}
use Rattle.operations.proofs.BuiltLaws.{complement_built}
use Rattle.operations.proofs.ComplementationUnary.build.Goals as goal

pub returns : goal.returns
returns c =
    let one = c.unit-one in
    let u = c.all_words in
    complement_built c.args.t.now u.new.t c.add.new.t c.args.g c.add.result (mask one.result) one.ensures u.ensures c.add.ensures
