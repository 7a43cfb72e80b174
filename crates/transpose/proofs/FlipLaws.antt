-- One bit of a number changed.
use mathlib.Core.Path.{◌≡◌, sym, ap, subst, ◌∙◌}
use mathlib.Core.Bool.{true, false, not, ◌&&◌, and-false}
use Prim.Native.Nat.{ℕ, ◌+◌, ◌^◌, ◌<◌, ◌≤◌}
use native.Mathlib.Nat.{add_comm}
use native.Mathlib.Decide.{ℕ_discrete, dec_lt}
use native.Mathlib.Omega.{arith}
use lib.Dec.{eqb, ltb}
use lib.Pow.{pow-lt}
use lib.Bits.{bit_and, xor_lt, xor_disjoint}
use borrow.Author.Tests.{lt-ltb, le-ltb}
use Rattle.automata.specs.Xor.{◌⊕◌}
use Rattle.automata.specs.Mask.{bit_of}
use Rattle.automata.proofs.Xor.{xor_false, xor_self, xor_assoc, xor_comm, eqb_same, eqb_differ}
use Rattle.rows.proofs.BitLaws.{bit_xor_lem, bit_and_lem, bit_none, bit_pow, bit_ext}
use Rattle.transpose.specs.Exchange.{flip}

flip_bit : (b x j : ℕ) → bit_of (flip b x) j ≡ bit_of x j ⊕ eqb j b
flip_bit b x j = bit_xor_lem j x (2 ^ b) ∙ ap (λ e. bit_of x j ⊕ e) (bit_pow b j)

pub flip_here : (b x : ℕ) → bit_of (flip b x) b ≡ not (bit_of x b)
flip_here b x = flip_bit b x b ∙ ap (λ e. bit_of x b ⊕ e) (eqb_same b) ∙ xor_comm (bit_of x b) true

pub flip_there : (b x j : ℕ) → (j ≡ b → ⊥) → bit_of (flip b x) j ≡ bit_of x j
flip_there b x j h = flip_bit b x j ∙ ap (λ e. bit_of x j ⊕ e) (eqb_differ {m = j} {n = b} h) ∙ xor_false (bit_of x j)

pub flip_flip : (b x : ℕ) → flip b (flip b x) ≡ x
flip_flip b x = bit_ext (flip b (flip b x)) x (λ j.
    flip_bit b (flip b x) j ∙ ap (λ c. c ⊕ eqb j b) (flip_bit b x j) ∙ xor_assoc (bit_of x j) (eqb j b) (eqb j b)
    ∙ ap (λ c. bit_of x j ⊕ c) (xor_self (eqb j b)) ∙ xor_false (bit_of x j))

-- A bit below w leaves a number on its side of 2 ^ w.
pub flip_lt : (w b x : ℕ) → b < w → x < 2 ^ w → flip b x < 2 ^ w
flip_lt w b x h g = xor_lt w x (2 ^ b) g (pow-lt h)

pub flip_ge : (w b x : ℕ) → b < w → 2 ^ w ≤ x → 2 ^ w ≤ flip b x
flip_ge w b x h g = go (dec_lt (flip b x) (2 ^ w))
  where
    go : Dec (flip b x < 2 ^ w) → 2 ^ w ≤ flip b x
    go (yes z) = absurd (omega (arith, subst (λ y. y < 2 ^ w) (flip_flip b x) (flip_lt w b (flip b x) h z)))
    go (no z) = omega arith

pub flip_ltb : (w b x : ℕ) → b < w → ltb (flip b x) (2 ^ w) ≡ ltb x (2 ^ w)
flip_ltb w b x h = go (dec_lt x (2 ^ w))
  where
    go : Dec (x < 2 ^ w) → ltb (flip b x) (2 ^ w) ≡ ltb x (2 ^ w)
    go (yes z) = lt-ltb (flip b x) (2 ^ w) (flip_lt w b x h z) ∙ sym (lt-ltb x (2 ^ w) z)
    go (no z) = le-ltb (flip b x) (2 ^ w) (flip_ge w b x h (omega arith)) ∙ sym (le-ltb x (2 ^ w) (omega arith))

-- A bit set is a power of two added.
pub flip_add : (b x : ℕ) → bit_of x b ≡ false → flip b x ≡ 2 ^ b + x
flip_add b x h = xor_disjoint x (2 ^ b) (bit_ext (bit_and x (2 ^ b)) 0 (λ j.
    bit_and_lem j x (2 ^ b) ∙ ap (λ c. bit_of x j && c) (bit_pow b j) ∙ go j (ℕ_discrete j b) ∙ sym (bit_none j))) ∙ add_comm x (2 ^ b)
  where
    go : (j : ℕ) → Dec (j ≡ b) → bit_of x j && eqb j b ≡ false
    go j (yes e) = ap (λ i. bit_of x i && eqb j b) e ∙ ap (λ c. c && eqb j b) h
    go j (no e) = ap (λ c. bit_of x j && c) (eqb_differ {m = j} {n = b} e) ∙ and-false (bit_of x j)

pub flip_sub : (b x : ℕ) → bit_of x b ≡ true → x ≡ 2 ^ b + flip b x
flip_sub b x h = sym (flip_flip b x) ∙ flip_add b (flip b x) (flip_here b x ∙ ap not h)
