-- `read_script`: each read puts its bytes behind those that were read, so that they are together the front of what the reader had. They are
-- all of it where a read finds none left, and as many as are read at most where the buffer is full.
use Rattle.std.proofs.Common.{◌≡◌, ◌+◌, ◌-◌, length, take, subst, arith, length-take-le}
use Rattle.std.specs.Io.KnownBytes.{Consumes}
use borrow.Rule.Slice.PartMut.{put_mid, mid_len, same_len_mid}
use Rattle.marking_io.specs.Text.{read_bytes}
use Rattle.marking_io.proofs.Calls.{read_all, read_full, read_behind}
use Rattle.marking_io.proofs.read_script.Goals as goal

pub loop-n-preserved : goal.loop-n-preserved
loop-n-preserved g c =
    let l = c.loop-n in
    let b = l.buffer in
    let moved = c.in_ok-count.ensures in
    let back = c.read_some.new.rest in
    let same = c.read_some.auto.rest in
    let room = mid_len l.n (length b) b (omega arith) in
    let kept = same_len_mid l.n (length b - l.n) b back same in
    record {
      within = omega (arith, kept, moved.within, room);
      bytes = read_behind l.n c.in_ok-count.count b back l.invariant.within (omega (arith, moved.within, same)) _ _ _ l.invariant.bytes moved.bytes.0;
    }

pub returns-then-count-eq0-clause-script : goal.returns-then-count-eq0-clause-script
returns-then-count-eq0-clause-script g c =
    let l = c.loop-n in
    let n = l.n in
    let b = l.buffer in
    let k = c.in_ok-count.count in
    let moved = c.in_ok-count.ensures in
    let back = c.read_some.new.rest in
    let same = c.read_some.auto.rest in
    let room = mid_len n (length b) b (omega arith) in
    let kept = same_len_mid n (length b - n) b back same in
    let all = read_behind n k b back l.invariant.within (omega (arith, moved.within, same)) _ _ _ l.invariant.bytes moved.bytes.0 in
    let none : n + k ≡ n = omega (arith, c.if-count-eq0.true) in
    let new = put_mid n (length b - n) b back in
    let had = g.R.Read.remaining c.args.reader.now in
    let left = g.R.Read.remaining c.read_some.new.reader in
    let long = length-take-le n new (omega (arith, kept)) in
    read_all
    read_bytes
    _
    _
    _
    (subst (λ m. Consumes had left (take m new)) none all)
    (moved.bytes.1 c.if-count-eq0.true (omega (arith, same, room)))
    (omega (arith, long, l.invariant.within, l.auto.buffer, c.requires))

pub returns-clause-script : goal.returns-clause-script
returns-clause-script g c =
    let l = c.loop-n in
    let long = length-take-le l.n l.buffer l.invariant.within in
    read_full read_bytes _ _ _ l.invariant.bytes (omega (arith, long, l.invariant.within, l.auto.buffer, c.requires, c.loop-n-test.false))
