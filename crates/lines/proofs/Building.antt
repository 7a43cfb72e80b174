-- What the first n bytes of a buffer are, and how long the parts of a line are.
use mathlib.Core.Path.{◌≡◌, refl, ◌∙◌}
use mathlib.Core.List.{List, [], ◌∷◌}
use Prim.Native.Nat.{ℕ, ◌<◌}
use native.Mathlib.Omega.{arith}
use lib.ListN.{length}
use Rattle.text.specs.Text.{word_text}
use Rattle.text.proofs.Words.{word_length}
use Rattle.lines.specs.Lines.{Begins}

-- A buffer that begins with a text begins with it under another name.
pub begins_as : {line : List ℕ} {n : ℕ} {text other : List ℕ} → text ≡ other → Begins line n text → Begins line n other
begins_as e b = record { within = b.within; bytes = b.bytes ∙ e }

-- No bytes are the start of any buffer.
pub begins_none : (line : List ℕ) → Begins line 0 []
begins_none line = record { within = omega arith; bytes = refl }

pub word_short : (w : List ℕ) → length w < 64 → length (word_text w) < 64
unfolding word_text
word_short [] h = omega arith
word_short (l ∷ w) h = rw (word_length (l ∷ w) (λ z. omega arith)) h
