-- One block of a table written, row by row.
use mathlib.Core.Path.{◌≡◌, refl, sym, ap, ◌∙◌}
use mathlib.Core.Bool.{Bool, false, ◌&&◌}
use mathlib.Core.List.{List}
use Prim.Native.Nat.{ℕ, ◌+◌, ◌^◌, ◌<◌, ◌≤◌}
use native.Mathlib.Nat.{le_trans}
use native.Mathlib.Decide.{dec_lt}
use native.Mathlib.Numerals.{add-one}
use native.Mathlib.Omega.{arith}
use lib.ListN.{length}
use borrow.Author.Tests.{lt-ltb, le-ltb}
use Rattle.automata.specs.Mask.{bit_of}
use Rattle.automata.proofs.Below.{up_to}
use Rattle.rows.specs.Row.{width}
use Rattle.rows.specs.Table.{blocks, size, at, row, stored}
use Rattle.rows.proofs.BitLaws.{bit_none, bit_high, bits_lt}
use Rattle.rows.proofs.TableLaws.{length_stored, stored_same, stored_block, stored_row}
use Rattle.transpose.specs.Exchange.{padded, HasRows, OnlyBlock}

pub only_start : (l : ℕ) (t : List ℕ) → length t ≡ size → OnlyBlock l t t
only_start l t h = record { others = λ m i g z. refl; size = h }

pub only_then : (l : ℕ) (t s u : List ℕ) → OnlyBlock l t s → OnlyBlock l s u → OnlyBlock l t u
only_then l t s u A B = record { others = λ m i g z. B.others m i g z ∙ A.others m i g z; size = B.size }

pub only_stored : (l i x : ℕ) (t s : List ℕ) → i < width → OnlyBlock l t s → OnlyBlock l t (stored s l i x)
only_stored l i x t s h A = record {
  others = λ m j g z. stored_block s l i x m j h g (λ e. z (sym e)) ∙ A.others m j g z;
  size = length_stored s l i x ∙ A.size;
}

-- ---- a matrix with rows of no bit behind it

pub padded_low : (n : ℕ) (T : ℕ → ℕ → Bool) (r k : ℕ) → r < n → padded n T r k ≡ T r k
padded_low n T r k h = ap (λ c. c && T r k) (lt-ltb r n h)

pub padded_high : (n : ℕ) (T : ℕ → ℕ → Bool) (r k : ℕ) → n ≤ r → padded n T r k ≡ false
padded_high n T r k h = ap (λ c. c && T r k) (le-ltb r n h)

-- No bit stands at m or above where none does in the matrix.
pub padded_thin : (l n m : ℕ) (t : List ℕ) → ((i : ℕ) → i < n → at t l i < 2 ^ m) → (r k : ℕ) → m ≤ k → padded n (row t l) r k ≡ false
padded_thin l n m t low r k h = go (dec_lt r n)
  where
    go : Dec (r < n) → padded n (row t l) r k ≡ false
    go (yes g) = padded_low n (row t l) r k g ∙ bit_high m (low r g) k h
    go (no g) = padded_high n (row t l) r k (omega arith)

-- ---- the rows behind a matrix cleared

pub clear_start : (l n : ℕ) (t : List ℕ) → HasRows l n (padded n (row t l)) t
unfolding HasRows
clear_start l n t r k h = sym (padded_low n (row t l) r k h)

pub clear_step : (l n i x : ℕ) (t s s' : List ℕ) → l < blocks → i < width → n ≤ i → x ≡ 0 → s' ≡ stored s l i x
    → OnlyBlock l t s × HasRows l i (padded n (row t l)) s → OnlyBlock l t s' × HasRows l (i + 1) (padded n (row t l)) s'
unfolding HasRows
clear_step l n i x t s s' hl hi hn hx e C = rw (e, add-one) (
  only_stored l i x t s hi C.0,
  λ r k. up_to {Q = λ r. bit_of (at (stored s l i x) l r) k ≡ padded n (row t l) r k} i
      (λ r h. ap (λ v. bit_of v k) (stored_row s l i x r (omega arith)) ∙ C.1 r k h)
      (ap (λ v. bit_of v k) (stored_same s l i x C.0.size hl hi ∙ hx) ∙ bit_none k ∙ sym (padded_high n (row t l) i k hn)) r,
)

pub cleared_lt : (l n m : ℕ) (t s : List ℕ) → n ≤ m → ((i : ℕ) → i < n → at t l i < 2 ^ n) → HasRows l m (padded n (row t l)) s → (i : ℕ) → i < m → at s l i < 2 ^ m
unfolding HasRows
cleared_lt l n m t s hn low C i h = bits_lt (at s l i) m (λ k g. C i k h ∙ padded_thin l n n t low i k (le_trans hn g))
