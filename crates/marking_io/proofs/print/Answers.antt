-- `print`: what a call took of the rest of the text stands behind what was printed of it.
use Rattle.std.proofs.Common.{length, sym, ap, subst, arith, take-add, length-drop}
use Rattle.std.specs.Io.KnownBytes.{Appends}
use Rattle.std.proofs.KnownBytes.{Appends-trans}
use borrow.Author.Rules.{part_to_end}
use Rattle.marking_io.proofs.print.Goals as goal

pub loop-done-preserved : goal.loop-done-preserved
loop-done-preserved g c =
    let text = c.args.text.now in
    let done = c.loop-done.done in
    let k = c.in_ok-count.count in
    let rest = part_to_end text done in
    let inv = c.loop-done.invariant in
    record {
      within = omega (arith, c.in_ok-count.ensures.within, inv.within, ap length rest, length-drop done text);
      bytes = subst (Appends _ _) (sym (take-add done k text)) (Appends-trans _ _ _ _ _ inv.bytes (rw rest at c.in_ok-count.ensures.bytes));
    }
