-- The verdict of a comparison, as an answer's line needs it: the checks of the two records, and their first difference.
use mathlib.Core.Path.{◌≡◌, sym, ap, ap₂, ◌∙◌}
use mathlib.Core.Logic.{inl, inr}
use mathlib.Core.List.{List}
use mathlib.Core.Option.{none, some}
use Prim.Native.Nat.{ℕ, ◌≤◌}
use native.Mathlib.Omega.{arith}
use Rattle.record.specs.Record.{language_of}
use Rattle.operands.specs.Operands.{pair_of}
use Rattle.std.specs.Prelude.{Ok, Err}
use Rattle.record.specs.Rules.{fault}
use Rattle.record.specs.declared.Refusal.{Refusal}
use Rattle.verdict.specs.Side.{side_of}
use Rattle.verdict.specs.declared.Side.{Side}
use Rattle.compare.specs.Compare.{difference_of}
use Rattle.compare.proofs.CompareLaws.{Written, Case}
use Rattle.lines.specs.Lines.{same_line, differ_line}
use Rattle.marking.specs.Marking.{dimension_in, fault_line, answer_line}

-- ---- the cases of an answer's line

module _ (index : ℕ) (key answer : List ℕ) where
  pub answer_refused : (r : Refusal) → pair_of key answer ≡ Err r → answer_line index key answer ≡ fault_line index (fault r.rule r.place)
  unfolding answer_line
  answer_refused r e = rw e

  module _ (both : pair_of key answer ≡ Ok tt) where
    pub answer_same : difference_of key answer ≡ none → answer_line index key answer ≡ same_line index (dimension_in answer)
    unfolding answer_line
    answer_same e = rw (both, e)

    pub answer_differs : (w : List ℕ) → difference_of key answer ≡ some w → answer_line index key answer ≡ differ_line index (dimension_in answer) w (side_of (language_of key w))
    unfolding answer_line
    answer_differs w e = rw (both, e)

-- ---- what the comparison's answer tells

pub found_line : (index : ℕ) (key answer : List ℕ) {room n : ℕ} {side : Side} (f : Written key answer room n side) {d : ℕ} {v : List ℕ} → d ≡ dimension_in answer → v ≡ f.difference.word
    → differ_line index d v side ≡ answer_line index key answer
found_line index key answer {side = side} f {d} {v} e h =
    let w = f.difference in
    ap (λ x. differ_line index x v side) e ∙ ap₂ (differ_line index (dimension_in answer)) h f.side
    ∙ sym (answer_differs index key answer w.both w.word w.found)

-- With room for 64 letters no word is withheld: a refusal is one of the checks.
pub checks_refused : (key answer : List ℕ) (room : ℕ) (r : Refusal) → 64 ≤ room → Case key answer room (Err r) → pair_of key answer ≡ Err r
checks_refused key answer room r large (inl e) = e
checks_refused key answer room r large (inr k) = absurd (omega (arith, k.less, k.difference.short.0))
