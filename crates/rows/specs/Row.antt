-- The number that a row stands for: bit j, worth 2 ^ j, is state j (01: The record).
--   width         how many bits a row has; an automaton inside has at most so many states
--   levels        how many bits a place in a row has: width is 2 ^ levels
--   mask x        the row x as a number
--   mask_at s k   row k of a list of rows as a number
--   stripes b     the number whose bits are at the places below width whose bit b is 0
use Rattle.std.specs.Prelude.{List, not, ℕ, get_or}
use Rattle.automata.specs.Mask.{bit_of, mask_of}
use Rattle.rows.specs.declared.Row.{Row}

abbrev pub width : ℕ
width = 64

abbrev pub levels : ℕ
levels = 6

unfoldable pub mask : Row → ℕ
mask x = x.bits

unfoldable pub mask_at : List Row → ℕ → ℕ
mask_at s k = mask (get_or s k (record { bits = 0 }))

unfoldable pub stripes : ℕ → ℕ
stripes b = mask_of width (λ k. not (bit_of k b))
