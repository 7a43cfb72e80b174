-- `all_words`: one block more is filled.
use native.Mathlib.Omega.{arith}
use Rattle.rows.specs.Row.{mask}
use Rattle.operations.proofs.BuiltLaws.{all_step}
use Rattle.operations.proofs.all_words.Goals as goal

pub loop-l-preserved : goal.loop-l-preserved
loop-l-preserved c =
    let v = c.loop-l in
    all_step v.l (mask c.args.one) v.t c.store.new.t (omega arith) c.requires.1 c.store.ensures v.invariant
