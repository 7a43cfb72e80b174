-- Two matrices side by side, for each letter.
--   beside F G n l k    row k of letter l of the two side by side: F has n states, and its rows stand first
use Rattle.std.specs.Prelude.{cond, ℕ, ◌-◌, ◌*◌, ◌^◌, ltb}

abbrev pub beside : (ℕ → ℕ → ℕ) → (ℕ → ℕ → ℕ) → ℕ → ℕ → ℕ → ℕ
beside F G n l k = cond (ltb k n) (F l k) (G l (k - n) * 2 ^ n)
