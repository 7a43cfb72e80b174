-- Runs of stores into a buffer, one after another.
use mathlib.Core.Path.{◌≡◌, refl, sym, ◌∙◌}
use mathlib.Core.List.{List, [], ◌∷◌, ◌++◌}
use Prim.Native.Nat.{ℕ, suc, ◌+◌, ◌*◌, ◌≤◌}
use native.Mathlib.Nat.{add-zero, zero-add, suc-add, add-suc, mul-one}
use native.Mathlib.Numerals.{add-one}
use native.Mathlib.Omega.{arith}
use lib.ListN.{length, drop, set}
use lib.Seq.{sets, sets-eq}
use Rattle.automata.specs.WordList.{join_below}
use Rattle.automata.specs.Fields.{rows_of}
use Rattle.automata.proofs.Fields.{join_length, rows_length}
use Rattle.record.specs.Bytes.{bytes_of, all_bytes}
use Rattle.record.proofs.Bytes.{length_all_bytes, all_bytes_append, all_bytes_one}

-- Of two runs the second is stored where the first ends.
pub sets_append : (xs ys l : List ℕ) (i : ℕ) → sets l i (xs ++ ys) ≡ sets (sets l i xs) (i + length xs) ys
sets_append [] ys l i = rw add-zero
sets_append (x ∷ xs) ys l i = rw (sets_append xs ys (set l i x) (suc i), suc-add, add-suc)

pub sets_then : (xs ys l : List ℕ) (i j : ℕ) → i + length xs ≡ j → sets l i (xs ++ ys) ≡ sets (sets l i xs) j ys
sets_then xs ys l i j e = sets_append xs ys l i ∙ rw e

-- The bytes of more numbers after those of some.
pub bytes_more : (w : ℕ) (xs ys l : List ℕ) (p : ℕ) {q : ℕ} → q ≡ p + w * length xs
    → sets (sets l p (all_bytes w xs)) q (all_bytes w ys) ≡ sets l p (all_bytes w (xs ++ ys))
bytes_more w xs ys l p e =
    sym (rw all_bytes_append (sets_then (all_bytes w xs) (all_bytes w ys) l p _ (rw length_all_bytes (sym e))))

-- One more row of a letter, and one more letter.
pub row_stored : (w : ℕ) (f : ℕ → ℕ) (l : List ℕ) (p i : ℕ) {q : ℕ} → q ≡ p + w * i
    → sets (sets l p (all_bytes w (join_below i (λ j. f j ∷ [])))) q (bytes_of w (f i)) ≡ sets l p (all_bytes w (join_below (i + 1) (λ j. f j ∷ [])))
row_stored w f l p i e =
    rw (add-one, ← all_bytes_one)
    (bytes_more w (join_below i (λ j. f j ∷ [])) (f i ∷ []) l p (rw length_one e))
  where
    length_one : length (join_below i (λ j. f j ∷ [])) ≡ i
    length_one = join_length i 1 (λ j. f j ∷ []) (λ j h. refl) ∙ mul-one i

pub letter_stored : (w n : ℕ) (f : ℕ → ℕ → ℕ) (l : List ℕ) (p k : ℕ)
    → sets (sets l p (all_bytes w (rows_of k n f))) (p + w * (k * n)) (all_bytes w (join_below n (λ i. f k i ∷ []))) ≡ sets l p (all_bytes w (rows_of (k + 1) n f))
letter_stored w n f l p k = rw add-one (bytes_more w (rows_of k n f) (join_below n (λ i. f k i ∷ [])) l p (rw rows_length))

-- The head of a record, I, F and the rows, one after another.
pub runs : (h i f r l : List ℕ) → length h ≡ 7 → length i ≡ 4 → length f ≡ 4
    → sets l 0 (h ++ (i ++ (f ++ r))) ≡ sets (sets (sets (sets l 0 h) 7 i) 11 f) 15 r
runs h i f r l eh ei ef =
    sets_then h (i ++ (f ++ r)) l 0 7 (omega arith)
    ∙ sets_then i (f ++ r) (sets l 0 h) 7 11 (omega arith)
    ∙ sets_then f r (sets (sets l 0 h) 7 i) 11 15 (omega arith)

-- A run from the front leaves what was stored and the rest of the buffer.
pub sets_front : (xs l : List ℕ) → length xs ≤ length l → sets l 0 xs ≡ xs ++ drop (length xs) l
sets_front xs l h = sets-eq xs l 0 (rw zero-add h) ∙ rw zero-add
