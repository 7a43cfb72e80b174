-- `put_rest`: as many letters as there are left.
use Rattle.std.proofs.Common.{arith}
use Rattle.rows.specs.Row.{mask}
use Rattle.record.specs.Record.{states_of, letters_of, row_at}
use Rattle.record.proofs.Refusals.{good_check}
use Rattle.products.proofs.LineLaws.{upto_step}
use Rattle.products.proofs.put_rest.Goals as goal

pub bounds-bytes-6 : goal.bounds-bytes-6
bounds-bytes-6 c = let f = (good_check _ c.requires.0).front in omega arith

pub put-requires : goal.put-requires
put-requires c = let f = (good_check _ c.requires.0).front in omega arith

pub returns-in-1 : goal.returns-in-1
returns-in-1 c =
    let a = c.args in
    let bs = a.bytes.now in
    let f = (good_check bs c.requires.0).front in
    upto_step a.l (letters_of bs) (row_at bs) (states_of bs) (mask a.x) a.s.now (omega arith) (omega arith) c.times_one.ensures c.put.ensures c.requires.4
