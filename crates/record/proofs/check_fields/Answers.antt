-- `check_fields`: where all bits together pass, each field passes.
use mathlib.Core.Path.{sym, ◌∙◌}
use native.Mathlib.Nat.{lt_of_le_of_lt}
use borrow.Author.Tests.{ltb-true}
use Rattle.record.specs.Record.{row_bytes, initial_at}
use Rattle.record.proofs.Refusals.{good_stray}
use Rattle.record.proofs.check_fields.Goals as goal

pub returns-then-within : goal.returns-then-within
returns-then-within c =
    let f = c.all_fields in
    let a = c.args in
    let low = ltb-true _ _ (sym c.within.ensures ∙ c.if-within.true) in
    sym (good_stray row_bytes a.n a.bytes.now a.k initial_at (λ j h. lt_of_le_of_lt (f.ensures j h) low))
