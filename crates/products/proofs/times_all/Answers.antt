-- `times_all`: by fours while there are four letters, then the rest.
use Rattle.std.proofs.Common.{◌≡◌, arith}
use Rattle.record.specs.Record.{letters_of}
use Rattle.record.proofs.Refusals.{good_check}
use Rattle.products.proofs.times_all.Goals as goal

pub bounds-bytes-6 : goal.bounds-bytes-6
bounds-bytes-6 c = let f = (good_check _ c.requires.0).front in omega arith

pub returns : goal.returns
returns c =
    let f = (good_check _ c.requires.0).front in
    let e : letters_of c.args.bytes.now ≡ 8 = omega arith in
    rw e c.put_letters-2.ensures
