-- Exclusive or: of two truth values, of finitely many, and of the members of a family that coefficients take.
--   a ⊕ b           just one of a and b holds
--   xor_below k f   f 0 ⊕ .. ⊕ f (k - 1)
--   comb k c f      the xor of the members f i, i below k, whose coefficient c i is true: a linear combination over GF(2)
use Rattle.std.specs.Prelude.{Bool, true, false, not, ◌&&◌, ℕ, zero, suc}

infixl 33 ◌⊕◌
abbrev pub ◌⊕◌ : Bool → Bool → Bool
false ⊕ b = b
true ⊕ b = not b

abbrev pub xor_below : ℕ → (ℕ → Bool) → Bool
xor_below zero f = false
xor_below (suc k) f = xor_below k f ⊕ f k

abbrev pub comb : {X : Type 0} → ℕ → (ℕ → Bool) → (ℕ → X → Bool) → X → Bool
comb k c f x = xor_below k (λ i. c i && f i x)
