-- What the calls that read and write have done. A reader has bytes left and a writer holds bytes; where these are not known, as of a file of
-- the system, nothing is said of them. What one call moves is said in std's words.
--   Received i n      a buffer of n bytes received no more than these
--   script_in i b     the script that was read into the buffer b: as many of its bytes as were received
--   Reads i r b       the script that was read into the buffer b is what the reader had left, r, but no more of it than is read at most
--   Sent p n          what was printed, if it did not fail, is all of n bytes
--   Prints p w w' t   what was put behind what the writer held, w, is the text t, and where it failed the front of it
use Rattle.std.specs.Prelude.{◌≡◌, List, [], ℕ, ◌≤◌, Option, IfSome, IfOk, MatchResult, Result, Ok, Err, length, take}
use Rattle.std.specs.Io.KnownBytes.{Appends}
use Rattle.std.specs.declared.io.Error.{Error}
use Rattle.marking_io.specs.Text.{read_bytes}

abbrev pub Received : Result ℕ Error → ℕ → Type 0
Received i n = IfOk i (λ k. k ≤ n)

abbrev pub script_in : Result ℕ Error → List ℕ → List ℕ
script_in (Ok k) buffer = take k buffer
script_in (Err e) buffer = []

abbrev pub Reads : Result ℕ Error → Option (List ℕ) → List ℕ → Type 0
Reads i left buffer = IfOk i (λ k. IfSome left (λ xs. take k buffer ≡ take read_bytes xs))

abbrev pub Sent : Result ℕ Error → ℕ → Type 0
Sent p n = IfOk p (λ k. k ≡ n)

-- The first k bytes of a text, and no more than these.
abbrev pub PrintsPart : Option (List ℕ) → Option (List ℕ) → List ℕ → Type 0
PrintsPart old new t = (k : ℕ) × (k ≤ length t) × Appends old new (take k t)

abbrev pub Prints : Result ℕ Error → Option (List ℕ) → Option (List ℕ) → List ℕ → Type 0
Prints p old new t = MatchResult p (λ _. Appends old new t) (λ _. PrintsPart old new t)
