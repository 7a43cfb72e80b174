-- Rows of truth values as numbers: bit j, worth 2 ^ j, stands for state j (01: The record).
--   bit_of m j      bit j of the number m
--   mask_of n f     the number whose bits below n are f, and that has no other
use Rattle.std.specs.Prelude.{Bool, cond, ℕ, zero, suc, ◌+◌, ◌*◌, ◌/◌, ◌%◌, ◌^◌, eqb}

abbrev pub bit_of : ℕ → ℕ → Bool
bit_of m j = eqb (m / 2 ^ j % 2) 1

abbrev pub mask_of : ℕ → (ℕ → Bool) → ℕ
mask_of zero f = 0
mask_of (suc n) f = mask_of n (λ j. f (suc j)) * 2 + cond (f 0) 1 0
