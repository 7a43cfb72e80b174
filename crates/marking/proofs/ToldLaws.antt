-- What the lines tell of a record's words, over all words: the claims of the comparison and of the dimension, for each record of a script;
-- and what the service claims.
use mathlib.Core.Path.{◌≡◌, refl, sym, ap, ap₂, subst, ◌∙◌}
use mathlib.Core.List.{List}
use mathlib.Core.Option.{Option, none, some}
use Prim.Native.Nat.{ℕ, ◌-◌, ◌≤◌}
use native.Mathlib.Omega.{arith}
use lib.ListN.{length, take, drop}
use Rattle.automata.proofs.Dimension.{dimension_unique, dimension_of_lem}
use Rattle.automata.proofs.FirstDifference.{difference_none, difference_some, none_difference, some_difference}
use Rattle.record.specs.Record.{letters_of, WellFormed, automaton_of, language_of}
use Rattle.record.specs.Claims.{HasDimension, Operands}
use Rattle.record.specs.Outcome.{answer_of, buffer_of, fit}
use Rattle.std.specs.Prelude.{Result, Ok}
use Rattle.record.specs.declared.Refusal.{Refusal}
use Rattle.record.proofs.Outcome.{fit_bytes}
use Rattle.operands.proofs.PairLaws.{both_pass}
use Rattle.operands.proofs.Numbers.{pair_numbers}
use Rattle.verdict.specs.Side.{side_of}
use Rattle.compare.specs.Compare.{difference_of, Differ}
use Rattle.compare.proofs.CompareLaws.{clash}
use Rattle.compare.proofs.Claims.{accepted, side_named}
use Rattle.script.specs.Script.{part_at, after_part, bytes_at}
use Rattle.script.proofs.Parts.{whole_stands}
use Rattle.lines.specs.Lines.{key_line, same_line, differ_line}
use Rattle.walk.specs.Walk.{place_of}
use Rattle.marking.specs.Marking.{max_script, dimension_in, key_record_line, answer_line, key_of, part_line, mark_line}
use Rattle.marking.specs.Told.{RecordAt, KeyTold, AnswerTold, Told, Marks, SaysRefused}
use Rattle.marking.proofs.Cases.{key_good, record_key, record_answer, line_part}
use Rattle.marking.proofs.Verdicts.{answer_same, answer_differs}
use Rattle.marking.proofs.Refusals.{mark_refusals}
use Rattle.lines.proofs.Readable.{dim_injective, differ_injective, not_both}

-- The dimension of a record is the one that its lines show.
shown : (bs : List ℕ) (d : ℕ) → HasDimension bs d → dimension_in bs ≡ d
shown bs d h = dimension_unique (letters_of bs) (language_of bs) (dimension_in bs) d (dimension_of_lem (letters_of bs) (automaton_of bs)) h

shows : (bs : List ℕ) (d : ℕ) → dimension_in bs ≡ d → HasDimension bs d
shows bs d e = subst (HasDimension bs) e (dimension_of_lem (letters_of bs) (automaton_of bs))

-- ---- the records of a script

key_line_lem : (s : List ℕ) (index : ℕ) (key : List ℕ) → length s ≤ max_script → index ≡ 0 → RecordAt s 0 key → mark_line s index ≡ key_record_line key
unfolding mark_line
key_line_lem s index key short z r =
    line_part s index (place_of s index) short
    ∙ ap (part_line s index) (ap (λ i. part_at s (place_of s i)) z ∙ r.whole)
    ∙ record_key s index (bytes_at s r.start r.next) z
    ∙ ap key_record_line (sym r.bytes)

-- The key is the record of index 0.
key_is : (s key : List ℕ) → RecordAt s 0 key → key_of s ≡ key
unfolding key_of place_of
key_is s key r =
    let h = whole_stands s 0 r.start r.next r.whole in
    let n : r.next ≡ r.next - r.start = omega (arith, h.here) in
    ap (λ p. take (after_part p 0) s) r.whole ∙ ap₂ (λ k i. take k (drop i s)) n (sym h.here) ∙ sym r.bytes

answer_line_lem : (s : List ℕ) (index : ℕ) (key answer : List ℕ) → length s ≤ max_script → (index ≡ 0 → ⊥) → RecordAt s 0 key → RecordAt s index answer
    → mark_line s index ≡ answer_line index key answer
unfolding mark_line
answer_line_lem s index key answer short z k r =
    line_part s index (place_of s index) short
    ∙ ap (part_line s index) r.whole
    ∙ record_answer s index (bytes_at s r.start r.next) z
    ∙ ap₂ (answer_line index) (key_is s key k) (sym r.bytes)

-- ---- the claims

key_told : (key line : List ℕ) → WellFormed key → line ≡ key_record_line key → KeyTold key line
key_told key line good e d =
    let l : line ≡ key_line (dimension_in key) = e ∙ sym (key_good key good) in (
      λ h. shows key d (dim_injective 0 _ (dimension_in key) d (sym l ∙ h)),
      λ h. l ∙ ap key_line (shown key d h),
    )

answer_told : (index : ℕ) (key answer line : List ℕ) → Operands key answer → line ≡ answer_line index key answer → AnswerTold index key answer line
unfolding difference_of
answer_told index key answer line p e = go (difference_of key answer) refl
  where
    go : (d : Option (List ℕ)) → difference_of key answer ≡ d → AnswerTold index key answer line
    go none h =
        let l : line ≡ same_line index (dimension_in answer) = e ∙ answer_same index key answer (both_pass key answer p.0 p.1 p.2) h in
        record {
          says_same = λ d q. (difference_none (letters_of key) (automaton_of key) (automaton_of answer) h, shows answer d (dim_injective index _ (dimension_in answer) d (sym l ∙ q)));
          same = λ d f hd. l ∙ ap (same_line index) (shown answer d hd);
          says_differ = λ d w side q. absurd (not_both index (dimension_in answer) d w side (sym l ∙ q));
          differ = λ d w side f hd. clash (let q = sym h ∙ some_difference (letters_of key) (automaton_of key) (automaton_of answer) w f.0 in cc);
        }
    go (some v) h =
        let l : line ≡ differ_line index (dimension_in answer) v (side_of (language_of key v)) = e ∙ answer_differs index key answer (both_pass key answer p.0 p.1 p.2) v h in
        let f = difference_some (letters_of key) (automaton_of key) (automaton_of answer) v h in
        record {
          says_same = λ d q. absurd (not_both index d (dimension_in answer) v (side_of (language_of key v)) (sym q ∙ l));
          same = λ d s hd. clash (let q = sym h ∙ none_difference (letters_of key) (automaton_of key) (automaton_of answer) s in cc);
          says_differ = λ d w side q.
              let i = differ_injective index (dimension_in answer) d v w (side_of (language_of key v)) side (sym l ∙ q) in
              (subst (λ x. Differ key answer x side) i.1 (subst (Differ key answer v) i.2 (f, accepted key answer v f.differs)), shows answer d i.0);
          differ = λ d w side g hd.
              let q = sym h ∙ some_difference (letters_of key) (automaton_of key) (automaton_of answer) w g.0 in
              let e : v ≡ w = cc in
              let by : side_of (language_of key v) ≡ side = ap (λ x. side_of (language_of key x)) e ∙ side_named key answer w side g.0.differs g.1 in
              l ∙ ap (λ x. differ_line index x v (side_of (language_of key v))) (shown answer d hd) ∙ ap₂ (differ_line index d) e by;
        }

pub told : (s : List ℕ) (index : ℕ) (line : List ℕ) → length s ≤ max_script → line ≡ mark_line s index → Told s index line
told s index line short e = record {
  key = λ key z r good. key_told key line good (e ∙ key_line_lem s index key short z r);
  answer = λ key answer more k r p. answer_told index key answer line p (e ∙ answer_line_lem s index key answer short (λ z. omega arith) k r);
}

-- What the service claims follows from the answer and the buffer.
pub marks : (s : List ℕ) (index : ℕ) (buf exit : List ℕ) (r : Result ℕ Refusal) → r ≡ answer_of (fit (length buf) (mark_line s index)) → exit ≡ buffer_of (fit (length buf) (mark_line s index)) buf
    → Marks s index exit r × SaysRefused pair_numbers exit r
marks s index buf exit r answer buffer = (λ short n e. told s index (take n exit) short (line n e), λ n e i k p q. mark_refusals s index i k p (sym (line n e) ∙ q))
  where
    line : (n : ℕ) → r ≡ Ok n → take n exit ≡ mark_line s index
    line n e = ap (take n) buffer ∙ fit_bytes (length buf) n (mark_line s index) buf (sym answer ∙ e)
