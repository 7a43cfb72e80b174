-- Numbers as bytes, low byte first, at any width (01: The record).
--   number w bs p   the number that w bytes of a list hold
--   bytes_of w x    the low w bytes of a number
--   all_bytes w xs  the same of each number of a list, end to end
--   AllBelow m xs   every member of a list is below m; what a byte slice holds is below 256
use Rattle.std.specs.Prelude.{ℕ, zero, suc, ◌+◌, ◌*◌, ◌/◌, ◌%◌, ◌<◌, List, [], ◌∷◌, ◌++◌, get_or}

-- The number in the w bytes from offset p.
unfoldable pub number : ℕ → List ℕ → ℕ → ℕ
number zero bs p = 0
number (suc w) bs p = get_or bs p 0 + 256 * number w bs (p + 1)

unfoldable pub bytes_of : ℕ → ℕ → List ℕ
bytes_of zero x = []
bytes_of (suc w) x = x % 256 ∷ bytes_of w (x / 256)

unfoldable pub all_bytes : ℕ → List ℕ → List ℕ
all_bytes w [] = []
all_bytes w (x ∷ xs) = bytes_of w x ++ all_bytes w xs

-- Past the end 0 is read.
abbrev pub AllBelow : ℕ → List ℕ → Type 0
AllBelow m xs = (i : ℕ) → get_or xs i 0 < m
