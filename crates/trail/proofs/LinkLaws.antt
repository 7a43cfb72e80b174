-- A trail with one more row.
use mathlib.Core.Path.{◌≡◌, ap}
use mathlib.Core.List.{List}
use Prim.Native.Nat.{ℕ, ◌<◌}
use native.Mathlib.Omega.{arith}
use lib.ListN.{length, length-set}
use lib.Seq.{get_or-set_same, get_or-set_other}
use Rattle.rows.specs.Row.{width}
use Rattle.trail.specs.declared.Step.{Step}
use Rattle.trail.specs.Trail.{trail_size, no_step, from_in, by_in, linked}

module _ (w : List Step) (d k l : ℕ) (h : d < width) where
  abbrev new : Step
  new = record { from = k; letter = l }

  pub linked_length : length (linked w d k l) ≡ length w
  unfolding linked
  linked_length = length-set w d new

  pub linked_from : (r : ℕ) → r < d → from_in (linked w d k l) r ≡ from_in w r
  unfolding linked from_in
  linked_from r g = ap (λ s. s.from) (get_or-set_other w d r new no_step (omega arith))

  pub linked_by : (r : ℕ) → r < d → by_in (linked w d k l) r ≡ by_in w r
  unfolding linked by_in
  linked_by r g = ap (λ s. s.letter) (get_or-set_other w d r new no_step (omega arith))

  pub linked_from_new : length w ≡ trail_size → from_in (linked w d k l) d ≡ k
  unfolding linked from_in
  linked_from_new e = ap (λ s. s.from) (get_or-set_same w d new no_step (omega arith))

  pub linked_by_new : length w ≡ trail_size → by_in (linked w d k l) d ≡ l
  unfolding linked by_in
  linked_by_new e = ap (λ s. s.letter) (get_or-set_same w d new no_step (omega arith))
