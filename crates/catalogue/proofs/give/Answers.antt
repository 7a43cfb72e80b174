-- `give`: a refusal, or what `codec::write` does with the entry that was loaded.
use mathlib.Core.Path.{refl, ap, ◌∙◌}
use native.Mathlib.Omega.{arith}
use lib.ListN.{length}
use Rattle.std.specs.Prelude.{Err}
use Rattle.catalogue.proofs.Records.{record_bounds, encode_loaded}
use Rattle.catalogue.proofs.Giving.{number_met, number_passes, promises}
use Rattle.catalogue.proofs.give.Goals as goal

pub returns-then-number-gt-LAST : goal.returns-then-number-gt-LAST
returns-then-number-gt-LAST c =
    let a = c.args in
    let room = length a.out.now in
    let e = number_met a.number room (omega arith) in
    let p = promises a.number a.out.now a.out.now _ (ap Err c.of.ensures ∙ rw e refl) (rw e) in
    record { answer = p.0; buffer = p.1.0; claims = p.1.1 }

pub write-requires : goal.write-requires
write-requires c =
    let h = c.load-m.ensures in
    let b = record_bounds c.args.number (omega arith) in
    (h.valid, omega (arith, h.states, b.states))

pub returns : goal.returns
returns c =
    let w = c.write in
    let l = c.load-m in
    let a = c.args in
    let room = length a.out.now in
    let e = number_passes a.number room (omega arith) in
    let same = encode_loaded a.number (omega arith) _ l.result l.ensures in
    let p = promises a.number a.out.now w.new.buf w.result (rw e (w.ensures.answer ∙ rw same)) (rw e (w.ensures.buffer ∙ rw same)) in
    record { answer = p.0; buffer = p.1.0; claims = p.1.1 }
