-- `times_each`: the row read at k and i is row i of letter l + k.
use Rattle.std.proofs.Common.{rules, ◌+◌, arith}
use Rattle.rows.proofs.BitLaws.{bit_below}
use Rattle.record.specs.Record.{states_of, row_at}
use Rattle.record.proofs.Refusals.{good_check}
use Rattle.products.proofs.times_each.Goals as goal

pub bounds-bytes-5 : goal.bounds-bytes-5
bounds-bytes-5 g c = let f = (good_check _ c.requires.0).front in omega arith

pub times_each-requires : goal.times_each-requires
times_each-requires g c =
    let r = c.requires in
    let few = (good_check _ r.0).front.letters in
    let n = c.size-n.ensures.0 in
    (omega arith, (omega arith, λ k i h w b. (r.0, n, omega arith, rw n (bit_below (states_of c.args.bytes.now) r.2 i b))))

pub returns : goal.returns
returns g c = λ k h. c.times_each.ensures (λ k. row_at c.args.bytes.now (c.args.l + k)) (record { row = λ k i r f g p. search rules }) k (states_of c.args.bytes.now) h c.requires.2
