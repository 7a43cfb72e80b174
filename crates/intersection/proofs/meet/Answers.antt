-- `meet`: the answer and the buffer by the checks, row 10 and the result, for the record that the second one stands for; the claims follow.
use mathlib.Core.Path.{◌≡◌, sym, ap, ap₂, subst, ◌∙◌}
use mathlib.Core.List.{List}
use Prim.Native.Nat.{ℕ, ◌*◌}
use native.Mathlib.Nat.{mul-le-mul}
use native.Mathlib.Omega.{arith}
use lib.ListN.{length}
use Rattle.std.specs.Prelude.{Err}
use Rattle.automata.specs.MinimalOf.{dimension_of}
use Rattle.rows.specs.Row.{mask}
use Rattle.rows.specs.Machine.{Bounded}
use Rattle.minimisation.specs.Minimises.{Minimises}
use Rattle.record.specs.Record.{letters_of, automaton_of}
use Rattle.record.specs.Claims.{Operands}
use Rattle.record.proofs.Refusals.{returned}
use Rattle.operands.specs.Meant.{meant_over}
use Rattle.operands.proofs.PairLaws.{both_passed, pair_good}
use Rattle.minimal.specs.Minimal.{MinimalIn}
use Rattle.intersection.proofs.MeetLaws.{meet_held, meet_refused, meet_over, within, meet_refuses, meet_gives}
use Rattle.intersection.proofs.meet.Goals.{After-minimal_form-h}
use Rattle.intersection.proofs.meet.Goals as goal

-- What the second record stands for beside the first.
abbrev second : After-minimal_form-h → List ℕ
second c = meant_over (letters_of c.args.first.now) c.args.second.now

-- The records that were checked are the first and what the second stands for.
one : (c : After-minimal_form-h) → c.in_ok-pair.pair.first.bytes.now ≡ c.args.first.now
one c = c.in_ok-pair.ensures.0

two : (c : After-minimal_form-h) → c.in_ok-pair.pair.second.bytes.now ≡ second c
two c = c.in_ok-pair.ensures.1 ∙ c.meant-right.ensures

-- Past the checks both are well formed, over the same letters.
passed : (c : After-minimal_form-h) → Operands c.args.first.now (second c)
passed c = both_passed _ _ (sym (pair_good c.args.first.now (second c) c.in_ok-pair.pair (one c) (two c)))

-- The minimal automata are those of the two, over the first record's letters.
first_minimal : (c : After-minimal_form-h) → MinimalIn c.args.first.now c.minimal_form-g.new.out c.minimal_form-g.result
first_minimal c = rw (one c) at c.minimal_form-g.ensures

minimised : (c : After-minimal_form-h) → Minimises (letters_of c.args.first.now) (automaton_of (second c)) c.minimal_form-h.new.out c.minimal_form-h.result.states (mask c.minimal_form-h.result.initial) (mask c.minimal_form-h.result.finals)
minimised c =
    let h = c.minimal_form-h in
    let e = rw (two c) at h.ensures.1 in
    subst (λ k. Minimises k (automaton_of (second c)) h.new.out h.result.states (mask h.result.initial) (mask h.result.finals)) (sym (passed c).2) e

-- The states of the two make the product of the dimensions.
dimensions : (c : After-minimal_form-h) → c.minimal_form-g.result.states * c.minimal_form-h.result.states ≡ dimension_of (letters_of c.args.first.now) (automaton_of c.args.first.now) * dimension_of (letters_of c.args.first.now) (automaton_of (second c))
dimensions c = ap₂ ◌*◌ (first_minimal c).1.dimension (minimised c).dimension

pub returns-in_err-pair : goal.returns-in_err-pair
returns-in_err-pair c =
    let a = c.args in
    let cs = meant_over (letters_of a.first.now) a.second.now in
    let e = meet_refused a.first.now cs (length a.out.now) (rw c.meant-right.ensures at c.in_err-pair.ensures) in
    let p = meet_refuses a.first.now cs a.out.now _ c.from_residual.result e (returned c.from_residual.result c.from_residual.ensures.1) in
    record { answer = p.0; buffer = p.1.0; claims = p.1.1 }

pub overflow_mul-d : goal.overflow_mul-d
overflow_mul-d c = omega (arith, mul-le-mul c.minimal_form-g.ensures.1.bounded.states c.minimal_form-h.ensures.1.bounded.states)

pub returns-then-d-gt-MAX_PRODUCT : goal.returns-then-d-gt-MAX_PRODUCT
returns-then-d-gt-MAX_PRODUCT c =
    let a = c.args in
    let h = (goal.at.returns-then-d-gt-MAX_PRODUCT c).After-minimal_form-h in
    let cs = second h in
    let o = meet_over a.first.now cs (length a.out.now) (passed h) _ (dimensions h) (omega arith) in
    let p = meet_refuses a.first.now cs a.out.now _ _ o (ap Err c.of.ensures) in
    record { answer = p.0; buffer = p.1.0; claims = p.1.1 }

pub product-m-requires : goal.product-m-requires
product-m-requires c =
    let h = c.minimal_form-h in
    let g = c.minimal_form-g in (
      subst (λ a. Bounded a g.new.out g.result.states (mask g.result.initial) (mask g.result.finals)) (sym g.ensures.0) g.ensures.1.bounded,
      subst (λ a. Bounded a h.new.out h.result.states (mask h.result.initial) (mask h.result.finals)) (sym h.ensures.0) h.ensures.1.bounded,
      h.ensures.0 ∙ c.in_ok-pair.pair.alike ∙ sym g.ensures.0,
      omega arith,
    )

pub finish-requires : goal.finish-requires
finish-requires c =
    (c.product-m.ensures.valid, c.minimal_form-g.ensures.1.bounded.size)

pub returns : goal.returns
returns c =
    let a = c.args in
    let at = (goal.at.returns c).After-minimal_form-h in
    let bs = a.first.now in
    let cs = second at in
    let f = c.finish in
    let g = c.minimal_form-g in
    let h = c.minimal_form-h in
    let m = c.product-m in
    let built = meet_held (letters_of bs) g.result.letters bs cs g.new.out h.new.out m.new.s g.result h.result m.result (first_minimal at).0 (first_minimal at).1 (minimised at) m.ensures in
    let small = within bs cs (passed at) _ (dimensions at) (omega arith) in
    let p = meet_gives bs cs a.out.now m.new.s m.result f.new.out f.result (passed at, small) built f.ensures.answer f.ensures.buffer in
    record { answer = p.0; buffer = p.1.0; claims = p.1.1 }
