-- Opened rows beside those of a second automaton are the rows of the concatenation, bit for bit.
use mathlib.Core.Path.{◌≡◌, refl, sym, ap, ◌∙◌}
use mathlib.Core.Bool.{Bool, true, false, ◌&&◌, cond}
use Prim.Native.Nat.{ℕ, ◌+◌, ◌-◌, ◌*◌, ◌^◌, ◌<◌}
use native.Mathlib.Decide.{dec_lt}
use native.Mathlib.Omega.{arith}
use lib.Bits.{bit_xor}
use lib.Dec.{ltb}
use Rattle.automata.specs.Mask.{bit_of}
use Rattle.automata.specs.Minimal.{SameBits}
use Rattle.automata.specs.Operations.{joined, concatenation_of}
use Rattle.rows.specs.Beside.{beside}
use Rattle.rows.specs.Machine.{auto_by}
use Rattle.rows.proofs.BitLaws.{bit_when, when_lt}
use Rattle.rows.proofs.BesideLaws.{if_low, if_high, shl_below}
use Rattle.rows.proofs.DirectSum.{moved_bits, pair_bits, pair_lt}
use Rattle.concatenation.specs.Opened.{ends_in, opened, opened_rows}

when_moved : (b : Bool) (x p : ℕ) → cond b (x * p) 0 ≡ cond b x 0 * p
when_moved true x p = refl
when_moved false x p = omega arith

joined_same : (n : ℕ) (f g h : ℕ → Bool) → ((j : ℕ) → g j ≡ h j) → (j : ℕ) → joined n f g j ≡ joined n f h j
joined_same n f g h e j = ap (λ b. cond (ltb j n) (f j) b) (e (j - n))

module _ (n f start : ℕ) where
  -- A row of the first, and where it ends a word the second's initial row, moved up, beside it.
  beside_row : (x : ℕ) → opened n f (start * 2 ^ n) x ≡ bit_xor x (cond (ends_in n f x) start 0 * 2 ^ n)
  beside_row x = ap (bit_xor x) (when_moved (ends_in n f x) start (2 ^ n))

  pub opened_bits : (x : ℕ) → x < 2 ^ n → (j : ℕ) → bit_of (opened n f (start * 2 ^ n) x) j ≡ joined n (bit_of x) (λ j. ends_in n f x && bit_of start j) j
  opened_bits x h j =
      ap (λ y. bit_of y j) (beside_row x) ∙ pair_bits n x (cond (ends_in n f x) start 0) h j
      ∙ joined_same n (bit_of x) (bit_of (cond (ends_in n f x) start 0)) (λ j. ends_in n f x && bit_of start j) (bit_when (ends_in n f x) start) j

  pub opened_lt : (m x : ℕ) → x < 2 ^ n → start < 2 ^ m → opened n f (start * 2 ^ n) x < 2 ^ (n + m)
  opened_lt m x h g = rw (beside_row x) (pair_lt n m x (cond (ends_in n f x) start 0) h (when_lt (ends_in n f x) start m g))

-- F has n states and the final column f, G has m states, the initial row start and the final column f'.
module _ (a : ℕ) (F : ℕ → ℕ → ℕ) (n f : ℕ) (G : ℕ → ℕ → ℕ) (m start : ℕ) (hF : (l k : ℕ) → l < a → k < n → F l k < 2 ^ n) where
  -- The rows of the first, opened, and beside them those of the second.
  abbrev pub rows : ℕ → ℕ → ℕ
  rows = beside (opened_rows n f (start * 2 ^ n) F) G n

  pub rows_lt : start < 2 ^ m → ((l k : ℕ) → l < a → k < m → G l k < 2 ^ m) → (l k : ℕ) → l < a → k < n + m → rows l k < 2 ^ (n + m)
  rows_lt hs hG l k p q = go (dec_lt k n)
    where
      go : Dec (k < n) → rows l k < 2 ^ (n + m)
      go (yes g) = rw (if_low k n (opened n f (start * 2 ^ n) (F l k)) (G l (k - n) * 2 ^ n) g) (opened_lt n f start m (F l k) (hF l k p g) hs)
      go (no g) = rw (if_high k n (opened n f (start * 2 ^ n) (F l k)) (G l (k - n) * 2 ^ n) (omega arith)) (shl_below n m (G l (k - n)) (hG l (k - n) p (omega arith)))

  pub concatenation_bits : (i f' : ℕ) → i < 2 ^ n → SameBits a (auto_by rows (n + m) (opened n f (start * 2 ^ n) i) (f' * 2 ^ n)) (concatenation_of (auto_by F n i f) (auto_by G m start f'))
  concatenation_bits i f' hi = record {
    states = refl;
    initial = λ k h. opened_bits n f start i hi k;
    final = λ k h. moved_bits n f' k;
    step = λ l k j hl hk hj. go l k j hl (dec_lt k n);
  }
    where
      first : ℕ → ℕ → ℕ → Bool
      first l k = joined n (bit_of (F l k)) (λ j. ends_in n f (F l k) && bit_of start j)

      second : ℕ → ℕ → ℕ → Bool
      second l k = joined n (λ j. false) (bit_of (G l k))

      go : (l k j : ℕ) → l < a → Dec (k < n) → bit_of (rows l k) j ≡ (concatenation_of (auto_by F n i f) (auto_by G m start f')).step l k j
      go l k j h (yes g) =
          ap (λ v. bit_of v j) (if_low k n (opened n f (start * 2 ^ n) (F l k)) (G l (k - n) * 2 ^ n) g)
          ∙ opened_bits n f start (F l k) (hF l k h g) j
          ∙ sym (ap (λ r. r j) (if_low k n (first l k) (second l (k - n)) g))
      go l k j h (no g) =
          ap (λ v. bit_of v j) (if_high k n (opened n f (start * 2 ^ n) (F l k)) (G l (k - n) * 2 ^ n) (omega arith))
          ∙ moved_bits n (G l (k - n)) j
          ∙ sym (ap (λ r. r j) (if_high k n (first l k) (second l (k - n)) (omega arith)))
