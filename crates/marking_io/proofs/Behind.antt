-- A line put behind the first n bytes of a buffer, through the part of the buffer from there on: it has room, so it is written, and no byte
-- before it changes.
use mathlib.Core.Path.{◌≡◌, refl, sym, ap, ◌∙◌}
use mathlib.Core.List.{List, ◌++◌, append_assoc}
use Prim.Native.Nat.{ℕ, ◌+◌, ◌-◌, ◌≤◌}
use native.Mathlib.Omega.{arith}
use borrow.Rule.Slice.PartMut.{mid_of, post_of, put_mid, mid_len}
use lib.ListN.{length, take, drop, length-append}
use lib.Seq.{length-take-le, take_at}
use Rattle.record.specs.Outcome.{wrote, answer_of, buffer_of, fit}
use Rattle.std.specs.Prelude.{Result, Ok}
use Rattle.record.specs.declared.Refusal.{Refusal}
use Rattle.record.proofs.Outcome.{fit_done}
use Rattle.lines.specs.Lines.{Begins}

-- The bytes xs and then the line, whatever follows.
front : (xs line rest post : List ℕ) (r : ℕ) → length xs + length line ≡ r → Begins (xs ++ ((line ++ rest) ++ post)) r (xs ++ line)
front xs line rest post r e =
    let count : length (xs ++ line) ≡ r = length-append xs line ∙ e in
    let same : xs ++ ((line ++ rest) ++ post) ≡ (xs ++ line) ++ (rest ++ post) = simp append_assoc in
    record {
      within = rw (same, length-append (xs ++ line) (rest ++ post)) (omega arith);
      bytes = ap (take r) same ∙ take_at (xs ++ line) (rest ++ post) r count;
    }

-- The part of a buffer from n on.
abbrev pub part_from : List ℕ → ℕ → List ℕ
part_from out n = mid_of n (length out - n) out

module _ (out line : List ℕ) (n : ℕ) (room : n + length line ≤ length out) where
  fits : fit (length (part_from out n)) line ≡ wrote line
  fits = fit_done (length (part_from out n)) line refl (rw (mid_len n (length out) out (omega arith)) (omega arith))

  pub granted : (w : Result ℕ Refusal) → w ≡ answer_of (fit (length (part_from out n)) line) → w ≡ Ok (length line)
  granted w e = e ∙ ap answer_of fits

  pub behind : (back : List ℕ) (r : ℕ) → back ≡ buffer_of (fit (length (part_from out n)) line) (part_from out n) → r ≡ n + length line
      → Begins (put_mid n (length out - n) out back) r (take n out ++ line)
  behind back r e count =
      rw (e, fits)
      (front (take n out) line (drop (length line) (part_from out n)) (post_of n (length out - n) out) r
      (ap (λ k. k + length line) (length-take-le n out (omega arith)) ∙ sym count))
