-- A row of a list of rows: all alike, and after one was written.
use Rattle.std.proofs.Common.{◌≡◌, ℕ, ◌<◌, List, length, set, replicate, ap, ap₂, ◌∙◌}
use Rattle.std.specs.Int.Bits.{bit_xor}
use Rattle.std.proofs.lemmas.List.{get_or-replicate}
use lib.Seq.{get_or-set_same, get_or-set_other}
use Rattle.rows.specs.declared.Row.{Row}
use Rattle.rows.specs.Row.{mask, mask_at}

pub mask_at_all : (n k : ℕ) (v : Row) → k < n → mask_at (replicate n v) k ≡ mask v
unfolding mask_at
mask_at_all n k v h = ap mask (get_or-replicate n k v (record { bits = 0 }) h)

pub mask_at_same : (s : List Row) (k : ℕ) (v : Row) → k < length s → mask_at (set s k v) k ≡ mask v
unfolding mask_at
mask_at_same s k v h = ap mask (get_or-set_same s k v (record { bits = 0 }) h)

pub mask_at_other : (s : List Row) (k j : ℕ) (v : Row) → (j ≡ k → ⊥) → mask_at (set s k v) j ≡ mask_at s j
unfolding mask_at
mask_at_other s k j v h = ap mask (get_or-set_other s k j v (record { bits = 0 }) h)

-- Row k of s, which is that of t, with a row r added to it.
pub mask_at_added : (s t : List Row) (k : ℕ) (v r : Row) {m : ℕ} → k < length s → mask_at s k ≡ mask_at t k → mask r ≡ m → mask v ≡ bit_xor (mask_at s k) (mask r)
    → mask_at (set s k v) k ≡ bit_xor (mask_at t k) m
mask_at_added s t k v r h e f p = mask_at_same s k v h ∙ p ∙ ap₂ bit_xor e f
