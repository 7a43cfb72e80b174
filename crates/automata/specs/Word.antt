-- Words over the letters 0 to a - 1, and shortlex order (01: prefix order; the report's definition 1).
--   Over a w      every letter of w is below a
--   is_over a w   the same as a truth value
--   Lex u v       at the first place where the two differ, u has the smaller letter
--   Shortlex u v  u comes before v: shorter words first, equal lengths by the first differing letter
--   NotAfter u v  u is v or comes before it
use Rattle.std.specs.Prelude.{◌≡◌, Bool, true, ◌&&◌, ◌⊎◌, List, [], ◌∷◌, ℕ, ◌<◌, ltb, length}

abbrev pub Over : ℕ → List ℕ → Type 0
Over a [] = Unit {0}
Over a (l ∷ w) = (l < a) × Over a w

abbrev pub is_over : ℕ → List ℕ → Bool
is_over a [] = true
is_over a (l ∷ w) = ltb l a && is_over a w

abbrev pub Lex : List ℕ → List ℕ → Type 0
Lex [] v = ⊥
Lex (x ∷ u) [] = ⊥
Lex (x ∷ u) (y ∷ v) = (x < y) ⊎ ((x ≡ y) × Lex u v)

abbrev pub Shortlex : List ℕ → List ℕ → Type 0
Shortlex u v = (length u < length v) ⊎ ((length u ≡ length v) × Lex u v)

abbrev pub NotAfter : List ℕ → List ℕ → Type 0
NotAfter u v = (u ≡ v) ⊎ Shortlex u v
