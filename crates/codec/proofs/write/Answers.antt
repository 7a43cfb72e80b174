-- `write`: its four runs of stores are the record.
use mathlib.Core.Path.{refl, sym, ap, ◌∙◌}
use lib.ListN.{length}
use Rattle.rows.specs.Machine.{automaton_in}
use Rattle.record.specs.Record.{encode}
use Rattle.std.specs.Prelude.{Ok, Err}
use Rattle.record.proofs.Encode.{length_encode}
use Rattle.record.proofs.Held.{written}
use Rattle.record.proofs.Outcome.{fit_short, fit_done}
use Rattle.codec.proofs.write.Goals as goal

pub returns-then-buf-whole : goal.returns-then-buf-whole
returns-then-buf-whole c =
    let a = c.args in
    let A = automaton_in a.t.now a.m in
    let l = length_encode a.m.letters A ∙ sym c.length_of-whole.ensures in
    let e = fit_short (length a.buf.now) (encode a.m.letters A) l c.if-buf-whole.true in
    record { answer = rw e (ap Err c.of.ensures); buffer = rw e refl }

pub returns : goal.returns
returns c =
    let room = c.if-buf-whole.false in
    let A = automaton_in c.args.t.now c.args.m in
    let out = encode c.args.m.letters A in
    let l = length_encode c.args.m.letters A in
    let l' = l ∙ sym c.length_of-whole.ensures in
    let e = fit_done (length c.args.buf.now) out l' room in
    let w = written c.args.t.now c.args.m c.requires.0 c.args.buf.now (rw c.length_of-whole.ensures at room) c.put_head.ensures c.put_field.ensures c.put_field-2.ensures c.put_rows.ensures in
    record { answer = rw e (ap Ok (sym l')); buffer = rw e (w ∙ rw l) }
