-- `operate`: the answer and the buffer by the check and by the result; the claims follow from both.
use native.Mathlib.Omega.{arith}
use lib.ListN.{length}
use Rattle.record.proofs.Refusals.{good_check, returned}
use Rattle.operations.proofs.BuiltLaws.{build_held}
use Rattle.operations.proofs.OperationLaws.{unary_refused, unary_service}
use Rattle.operations.proofs.operate.Goals as goal

pub returns-in_err-lent : goal.returns-in_err-lent
returns-in_err-lent g c =
    let a = c.args in
    let o = g.O.Unary in
    let e = unary_refused o.words o.make g.met.O.Unary.accepted a.bytes.now (length a.out.now) c.in_err-lent.ensures in
    let p = (unary_service o.words o.make g.met.O.Unary.accepted a.bytes.now a.out.now).0 _ c.from_residual.result e (returned c.from_residual.result c.from_residual.ensures.1) in
    record { answer = p.0; buffer = p.1.0; claims = p.1.1 }

pub build-m-requires : goal.build-m-requires
build-m-requires g c =
    let x = c.read-g.ensures in
    let f = (good_check _ c.in_ok-lent.lent.well_formed).front in
    (x.valid, omega arith)

pub returns : goal.returns
returns g c =
    let a = c.args in
    let o = g.O.Unary in
    let f = c.finish in
    let m = c.build-m in
    let same = c.in_ok-lent.ensures in
    let held = rw same at c.read-g.ensures in
    let good = rw same at c.in_ok-lent.lent.well_formed in
    let built = build_held o.words g.met.O.Unary.same a.bytes.now c.read-g.new.t m.new.t c.read-g.result m.result held m.ensures in
    let p = (unary_service o.words o.make g.met.O.Unary.accepted a.bytes.now a.out.now).1 m.new.t m.result f.new.out f.result good built f.ensures.answer f.ensures.buffer in
    record { answer = p.0; buffer = p.1.0; claims = p.1.1 }
