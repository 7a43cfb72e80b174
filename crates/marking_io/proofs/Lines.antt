-- The lines of the indices from 0 on, put one behind another: none at first, each time one more, and the text at the first index without
-- one. A script has one text.
use mathlib.Core.Path.{◌≡◌, refl, sym, ap, subst, ◌∙◌}
use mathlib.Core.List.{List, [], ◌++◌}
use Prim.Native.Nat.{ℕ, ◌+◌, ◌*◌, ◌≤◌, ◌<◌}
use native.Mathlib.Decide.{dec_lt}
use native.Mathlib.Numerals.{add-one}
use native.Mathlib.Omega.{arith}
use lib.ListN.{length, take}
use Rattle.automata.specs.WordList.{join_below}
use Rattle.walk.specs.Walk.{past_of, place_of}
use Rattle.lines.specs.Lines.{longest, Begins}
use Rattle.lines.proofs.Building.{begins_as, begins_none}
use Rattle.marking.specs.Marking.{mark_line}
use Rattle.marking.proofs.Cases.{no_lines}
use Rattle.marking.proofs.Bound.{line_index}
use Rattle.marking_io.specs.Text.{lines_below, IsText, most_lines}

-- The first n bytes of a buffer are the lines of the indices below one; each has a line; at is the place of the next.
pub record Walked (s out : List ℕ) (n index at : ℕ) : Type 0 where
  pub bytes : Begins out n (lines_below s index)
  pub place : at ≡ place_of s index
  pub each : (i : ℕ) → i < index → 0 < length (mark_line s i)
  pub short : n ≤ index * longest
  pub most : index ≤ most_lines

module _ (s : List ℕ) where
  lines_none : lines_below s 0 ≡ []
  unfolding lines_below
  lines_none = refl

  lines_more : (k : ℕ) → lines_below s (k + 1) ≡ lines_below s k ++ mark_line s k
  unfolding lines_below
  lines_more k = ap (λ m. join_below m (mark_line s)) (add-one k)

  pub walked_none : (out : List ℕ) → Walked s out 0 0 0
  unfolding place_of
  walked_none out = record {
    bytes = begins_as (sym lines_none) (begins_none out);
    place = refl;
    each = λ i h. absurd (omega arith);
    short = omega arith;
    most = omega arith;
  }

  -- The line of the next index has been put behind them: n bytes before, r after.
  module _ (before out : List ℕ) (n r index at : ℕ) (b : Walked s before n index at) (p : Begins out r (take n before ++ mark_line s index)) (count : r ≡ n + length (mark_line s index)) where
    abbrev line : List ℕ
    line = mark_line s index

    -- One line more, and the next.
    module _ (some : 0 < length line) (most : r ≤ n + longest) where
      below : index < most_lines
      below = line_index s index some

      each_more : (i : ℕ) → i < index + 1 → 0 < length (mark_line s i)
      each_more i h = go (dec_lt i index)
        where
          go : Dec (i < index) → 0 < length (mark_line s i)
          go (yes q) = b.each i q
          go (no q) = let last : index ≡ i = omega arith in subst (λ j. 0 < length (mark_line s j)) last some

      pub walked_more : (next : ℕ) → next ≡ past_of s index at → Walked s out r (index + 1) next
      unfolding place_of
      walked_more next e = record {
        bytes = begins_as (ap (λ x. x ++ line) b.bytes.bytes ∙ sym (lines_more index)) p;
        place = e ∙ ap (past_of s index) b.place ∙ sym (ap (place_of s) (add-one index));
        each = each_more;
        short = omega (arith, b.short);
        most = omega (arith, below);
      }

  -- A script has one text.
  pub text_unique : (t u : List ℕ) → IsText s t → IsText s u → t ≡ u
  text_unique t u a b = a.bytes ∙ ap (lines_below s) same ∙ sym b.bytes
    where
      go : Dec (a.count < b.count) → Dec (b.count < a.count) → a.count ≡ b.count
      go (yes h) q = absurd (omega (arith, b.each a.count h, a.last))
      go (no h) (yes k) = absurd (omega (arith, a.each b.count k, b.last))
      go (no h) (no k) = omega arith

      same : a.count ≡ b.count
      same = go (dec_lt a.count b.count) (dec_lt b.count a.count)

-- The text of a script of 0 bytes is empty.
pub no_text : (t : List ℕ) → IsText [] t → t ≡ []
no_text t p = p.bytes ∙ ap (lines_below []) (none (dec_lt 0 p.count)) ∙ lines_none []
  where
    none : Dec (0 < p.count) → p.count ≡ 0
    none (yes h) = absurd (omega (arith, p.each 0 h, ap length (no_lines 0)))
    none (no h) = omega arith
