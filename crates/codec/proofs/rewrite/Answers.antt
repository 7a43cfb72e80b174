-- `rewrite`: the record of the automaton that was read is the record itself.
use mathlib.Core.Path.{refl, ◌∙◌}
use native.Mathlib.Omega.{arith}
use lib.ListN.{length}
use Rattle.record.proofs.Refusals.{good_check, returned}
use Rattle.record.proofs.Held.{encode_held}
use Rattle.record.proofs.Outcome.{rewrite_told, rewrite_fit}
use Rattle.codec.proofs.rewrite.Goals as goal

pub returns-in_err-lent : goal.returns-in_err-lent
returns-in_err-lent c =
    let e = rewrite_told c.args.bytes.now (length c.args.buf.now) c.in_err-lent.ensures in
    record { answer = returned c.from_residual.result c.from_residual.ensures.1 ∙ rw e refl; buffer = rw e refl }

pub write-requires : goal.write-requires
write-requires c =
    let h = c.read-m.ensures in
    let f = (good_check _ c.in_ok-lent.lent.well_formed).front in
    (h.valid, omega (arith, h.states, f.states))

pub returns : goal.returns
returns c =
    let a = c.args in
    let bs = a.bytes.now in
    let good = rw c.in_ok-lent.ensures at c.in_ok-lent.lent.well_formed in
    let e = rewrite_fit bs (length a.buf.now) good in
    let held = rw c.in_ok-lent.ensures at c.read-m.ensures in
    let same = encode_held bs c.read-m.new.t c.read-m.result (λ i. omega (arith, c.shared_slice_known-1.given i)) good held in
    let w = c.write.ensures in
    record { answer = rw e (w.answer ∙ rw same); buffer = rw e (w.buffer ∙ rw same) }
