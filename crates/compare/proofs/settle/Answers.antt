-- `settle`: the answer and the buffer, case by case.
use mathlib.Core.Path.{◌≡◌, refl, sym, ap, ap₂, ◌∙◌}
use mathlib.Core.Option.{some}
use Prim.Native.Nat.{◌≤◌, ◌<◌}
use native.Mathlib.Omega.{arith}
use lib.ListN.{length, drop}
use mathlib.Core.List.{◌++◌}
use Rattle.trail.specs.Trail.{word_in, Traced}
use Rattle.verdict.specs.Judged.{Found}
use Rattle.record.specs.Record.{letters_of, automaton_of}
use Rattle.record.specs.Outcome.{buffer_of}
use Rattle.record.proofs.Refusals.{good_check}
use Rattle.record.proofs.Outcome.{fit_short, fit_done}
use Rattle.operands.proofs.PairLaws.{both_passed}
use Rattle.std.specs.Prelude.{Ok, Err, Some}
use Rattle.record.specs.Rules.{refusal}
use Rattle.record.specs.declared.Rule.TheVariants.{NoRoom}
use Rattle.compare.specs.Compare.{difference_of, differs}
use Rattle.compare.proofs.CompareLaws.{outcome_same, outcome_word, word_answer, word_withheld, same_answer}
use Rattle.compare.proofs.settle.Goals.{After-size-a, In-Some}
use Rattle.compare.proofs.settle.Goals as goal

-- The row that was found.
found : (c : In-Some) → Found (letters_of c.args.first.now) (automaton_of c.args.first.now) (automaton_of c.args.second.now) c.compare-v.new.w c.in-Some.apart.row c.in-Some.apart.side
found c = rw c.in-Some.is at c.compare-v.ensures

difference : (c : In-Some) → difference_of c.args.first.now c.args.second.now ≡ some (word_in c.compare-v.new.w c.in-Some.apart.row)
unfolding difference_of
difference c = (found c).word

-- Its word can be read off the trail.
traced : (c : After-size-a) → Traced c.size-a.result c.in-Some.apart.row c.compare-v.new.w
traced c = rw c.size-a.ensures.0 (rw c.in-Some.is at c.compare-v.ensures).traced

pub compare-v-requires : goal.compare-v-requires
compare-v-requires c = (both_passed _ _ c.requires, c.empty-w.ensures)

pub returns-in_default : goal.returns-in_default
unfolding difference_of
returns-in_default c =
    let a = c.args in
    let None-found = rw c.in_default.is at c.compare-v.ensures in record { answer = sym (same_answer a.first.now a.second.now (length a.word.now) c.requires None-found); buffer = sym (ap (λ x. buffer_of x a.word.now) (outcome_same a.first.now a.second.now (length a.word.now) c.requires None-found)) }

pub bounds-first-6 : goal.bounds-first-6
bounds-first-6 c = let f = (good_check _ (both_passed _ _ c.requires).0).front in omega (arith, f.long)

pub depth-n-requires : goal.depth-n-requires
depth-n-requires c = traced (goal.at.depth-n-requires c).After-size-a

pub returns-then-word-n : goal.returns-then-word-n
returns-then-word-n c =
    let a = c.args in
    let w = word_in c.compare-v.new.w c.in-Some.apart.row in
    let e = c.depth-n.ensures.0 in
    let short : length a.word.now < length w = rw e at c.if-word-n.true in record { answer = ap Err (c.of.ensures ∙ ap (refusal NoRoom 0) e) ∙ sym (word_withheld a.first.now a.second.now (length a.word.now) c.requires w (difference (goal.at.returns-then-word-n c).In-Some) short); buffer = sym (ap (λ x. buffer_of x a.word.now) (outcome_word a.first.now a.second.now (length a.word.now) c.requires w (difference (goal.at.returns-then-word-n c).In-Some) ∙ fit_short (length a.word.now) w refl short)) }

pub trace-requires : goal.trace-requires
trace-requires c = (traced (goal.at.trace-requires c).After-size-a, c.depth-n.ensures.0, omega arith)

pub returns : goal.returns
returns c =
    let a = c.args in
    let w = word_in c.compare-v.new.w c.in-Some.apart.row in
    let e = c.depth-n.ensures.0 in
    let room : length w ≤ length a.word.now = rw e at c.if-word-n.false in record {
      answer = ap₂ (λ n s. Ok (Some (differs n s))) e (found (goal.at.returns c).In-Some).side ∙ sym (word_answer a.first.now a.second.now (length a.word.now) c.requires w (difference (goal.at.returns c).In-Some) room);
      buffer = c.trace.ensures ∙ ap (λ k. w ++ drop k a.word.now) e
          ∙ sym (ap (λ x. buffer_of x a.word.now) (outcome_word a.first.now a.second.now (length a.word.now) c.requires w (difference (goal.at.returns c).In-Some) ∙ fit_done (length a.word.now) w refl room));
    }
