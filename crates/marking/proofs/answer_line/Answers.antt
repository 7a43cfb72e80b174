-- `answer_line`: the verdict of the comparison, case by case.
use mathlib.Core.Path.{◌≡◌, sym, ap, subst, ◌∙◌}
use native.Mathlib.Omega.{arith}
use borrow.Author.Rules.{rules}
use lib.ListN.{length, take, replicate}
use Rattle.std.specs.Prelude.{Ok, Err, None, Some}
use Rattle.automata.specs.Word.{Over}
use Rattle.automata.proofs.Shortlex.{over_more}
use Rattle.record.specs.Record.{letters_of}
use Rattle.record.specs.Outcome.{buffer_in}
use Rattle.record.proofs.Refusals.{good_check}
use Rattle.record.proofs.Outcome.{outcome_take}
use Rattle.operands.specs.Meant.{meant_over}
use Rattle.operands.proofs.PairLaws.{both_passed}
use Rattle.operands.proofs.MeantLaws.{meant_itself}
use Rattle.compare.specs.Compare.{Compared, compare_outcome, compare_answer}
use Rattle.compare.proofs.CompareLaws.{Written, Case, case}
use Rattle.lines.specs.Lines.{same_line}
use Rattle.marking.specs.Marking.{fault_line}
use Rattle.marking.proofs.Verdicts.{answer_refused, answer_same, found_line, checks_refused}
use Rattle.marking.proofs.answer_line.Goals.{After-compare, In-Ok-None, In-Ok-Some}
use Rattle.marking.proofs.answer_line.Goals as goal

-- The answer has bytes, so it stands for itself.
meant : (c : After-compare) → meant_over (letters_of c.args.key.now) c.args.answer.now ≡ c.args.answer.now
meant c = sym (meant_itself (letters_of c.args.key.now) c.args.answer.now (λ none. omega (arith, c.requires)))

-- What the comparison tells, with room for 64 letters.
verdict : (c : After-compare) (r : Compared) → c.compare.result ≡ r → Case c.args.key.now c.args.answer.now 64 r
verdict c r e =
    let a = c.args in
    case a.key.now a.answer.now 64 r (sym e ∙ c.compare.ensures.answer ∙ ap (λ x. compare_answer a.key.now x 64) (meant c))

same : (c : In-Ok-None) → Case c.args.key.now c.args.answer.now 64 (Ok None)
same c = let i = c.in-Ok-None in verdict (goal.at.dimension-d-requires c).After-compare (Ok None) (i.is ∙ ap Ok i.field-0-is)

found : (c : In-Ok-Some) → Written c.args.key.now c.args.answer.now 64 c.in-Ok-Some.found.length c.in-Ok-Some.found.side
found c = let i = c.in-Ok-Some in verdict (goal.at.dimension-own-requires c).After-compare (Ok (Some i.found)) (i.is ∙ ap Ok i.field-0-is)

-- The word that was written is the one that was found.
is_word : (c : In-Ok-Some) → take c.in-Ok-Some.found.length c.compare.new.word ≡ (found c).difference.word
is_word c =
    let f = found c in
    let a = c.args in
    let n = c.in-Ok-Some.found.length in
    ap (take n) (c.compare.ensures.buffer ∙ ap (λ x. buffer_in (compare_outcome a.key.now x) (replicate 64 0)) (meant (goal.at.dimension-own-requires c).After-compare))
    ∙ outcome_take (compare_outcome a.key.now a.answer.now 64) f.difference.word (replicate 64 0) n f.written f.count

pub dimension-d-requires : goal.dimension-d-requires
dimension-d-requires c = (both_passed _ _ (same c).0).1

pub dimension-own-requires : goal.dimension-own-requires
dimension-own-requires c = let w = both_passed _ _ (found c).difference.both in search rules

pub slice_bounds-word-end : goal.slice_bounds-word-end
slice_bounds-word-end c = let f = found (goal.at.slice_bounds-word-end c).In-Ok-Some in omega (arith, f.count, f.difference.short.0)

pub slice_bounds-differ_line-end : goal.slice_bounds-differ_line-end
slice_bounds-differ_line-end c = let i = (goal.at.slice_bounds-differ_line-end c).In-Ok-Some in (found i).count ∙ sym (ap length (is_word i))

pub differ_line-requires : goal.differ_line-requires
differ_line-requires c =
    let i = (goal.at.slice_bounds-differ_line-end c).In-Ok-Some in
    let f = found i in
    let w = is_word i in
    let small = (good_check _ (both_passed _ _ f.difference.both).0).front.letters in
    (omega arith, (subst (Over 10) (sym w) (over_more (omega arith) f.difference.word f.difference.first.over), omega (arith, ap length w, f.difference.short.0), omega arith))

pub returns-in-Ok-None : goal.returns-in-Ok-None
returns-in-Ok-None c =
    let a = c.args in
    let v = same (goal.at.returns-in-Ok-None c).In-Ok-None in
    c.dim_line.ensures ∙ ap (same_line a.index) c.dimension-d.ensures ∙ sym (answer_same a.index a.key.now a.answer.now v.0 v.1)

pub returns-in-Ok-Some : goal.returns-in-Ok-Some
returns-in-Ok-Some c =
    let a = c.args in
    let i = (goal.at.returns-in-Ok-Some c).In-Ok-Some in
    c.differ_line.ensures ∙ found_line a.index a.key.now a.answer.now (found i) c.dimension-own.ensures (is_word i)

pub returns-in-Err : goal.returns-in-Err
returns-in-Err c =
    let a = c.args in
    let r = c.in-Err.refusal in
    let e = verdict (goal.at.returns-in-Err c).After-compare (Err r) c.in-Err.is in
    c.fault_line.ensures ∙ ap (fault_line a.index) c.at.ensures ∙ sym (answer_refused a.index a.key.now a.answer.now r (checks_refused a.key.now a.answer.now 64 r (omega arith) e))
