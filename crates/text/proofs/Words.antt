-- Words in digits: `-` for the empty word, and for any other as many digits as letters.
use mathlib.Core.Path.{◌≡◌, refl, sym}
use mathlib.Core.List.{List, [], ◌∷◌, map}
use Prim.Native.Nat.{ℕ, ◌+◌, ◌<◌}
use native.Mathlib.Omega.{arith}
use lib.ListN.{length, get_or, take, length-map}
use lib.Seq.{sets}
use Rattle.std.proofs.lemmas.List.{map_more, length-take}
use Rattle.record.proofs.Stores.{sets_then}
use Rattle.text.specs.Text.{digit, word_text}

pub word_length : (w : List ℕ) → (length w ≡ 0 → ⊥) → length (word_text w) ≡ length w
unfolding word_text
word_length [] h = absurd (h refl)
word_length (l ∷ w) h = length-map (l ∷ w) digit

-- One more digit stored.
pub digit_stored : (l w : List ℕ) (at i : ℕ) → i < length w
    → sets (sets l at (map digit (take i w))) (at + i) (digit (get_or w i 0) ∷ []) ≡ sets l at (map digit (take (i + 1) w))
digit_stored l w at i h =
    sym (rw (map_more digit w i 0 h) (sets_then (map digit (take i w)) (digit (get_or w i 0) ∷ []) l at (at + i) (rw length-map (omega (arith, length-take i w)))))
