-- The first rows of a block changed in place, one after another; and block after block.
use mathlib.Core.Path.{◌≡◌, refl, sym, ◌∙◌}
use mathlib.Core.List.{List}
use Prim.Native.Nat.{ℕ, ◌+◌, ◌<◌, ◌≤◌}
use native.Mathlib.Nat.{not-suc-le-zero}
use native.Mathlib.Numerals.{add-one}
use native.Mathlib.Omega.{arith}
use lib.ListN.{length}
use Rattle.automata.proofs.Below.{up_to}
use Rattle.rows.specs.Row.{width}
use Rattle.rows.specs.Table.{blocks, size, at, stored}
use Rattle.rows.proofs.TableLaws.{length_stored, stored_same, stored_block, stored_row}
use Rattle.direct_sum.specs.Filled.{Filled, Changed, ChangedUpTo}

-- ---- row after row

module _ (l : ℕ) (f : ℕ → ℕ) (t : List ℕ) where
  pub changed_start : length t ≡ size → Changed l 0 f t t
  changed_start h = record { others = λ x i p d. refl; rows = λ i p. absurd (not-suc-le-zero p); rest = λ i p q. refl; size = h }

  pub changed_step : (k : ℕ) (s s' : List ℕ) (r : ℕ) → l < blocks → k < width → r ≡ f k → s' ≡ stored s l k r → Changed l k f t s → Changed l (k + 1) f t s'
  changed_step k s s' r w h hr e C = rw (e, add-one) (record {
    others = λ x i p d. stored_block s l k r x i h p (λ z. d (sym z)) ∙ C.others x i p d;
    rows = up_to {Q = λ i. at (stored s l k r) l i ≡ f i} k (λ i p. stored_row s l k r i (omega arith) ∙ C.rows i p) (stored_same s l k r C.size w h ∙ hr);
    rest = λ i p q. stored_row s l k r i (omega arith) ∙ C.rest i (omega arith) q;
    size = length_stored s l k r ∙ C.size;
  })

-- ---- block after block

module _ (n : ℕ) (f : ℕ → ℕ → ℕ) (t : List ℕ) where
  pub up_to_start : length t ≡ size → ChangedUpTo 0 n f t t
  up_to_start h = record { rows = λ x i p. absurd (not-suc-le-zero p); rest = λ x i p q. refl; size = h }

  -- The rows of block l become those of f, and no other block changes.
  pub up_to_step : (l : ℕ) (s s' : List ℕ) → n ≤ width → ((x i : ℕ) → i < width → (x ≡ l → ⊥) → at s' x i ≡ at s x i) → ((i : ℕ) → i < n → at s' l i ≡ f l i) → length s' ≡ size
      → ChangedUpTo l n f t s → ChangedUpTo (l + 1) n f t s'
  up_to_step l s s' w others own h B = rw add-one (record {
    rows = λ x i p q. up_to {Q = λ x. at s' x i ≡ f x i} l (λ x p. others x i (omega arith) (omega arith) ∙ B.rows x i p q) (own i q) x p;
    rest = λ x i p q. others x i q (omega arith) ∙ B.rest x i (omega arith) q;
    size = h;
  })

  pub up_to_end : (a : ℕ) (s : List ℕ) → ChangedUpTo a n f t s → Filled a n f s
  up_to_end a s B = record { rows = B.rows; size = B.size }
