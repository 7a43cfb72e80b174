-- Two rows, p of a number without bit b and q of its partner's, as numbers: what they are once they have exchanged bit b.
use mathlib.Core.Path.{◌≡◌, sym, ap, ap₂, ◌∙◌}
use mathlib.Core.Bool.{Bool, true, false, not, ◌&&◌, and-false, and-true, false≢true, cond}
use mathlib.Core.Logic.{◌⊎◌, inl, inr}
use Prim.Native.Nat.{ℕ, ◌+◌, ◌-◌, ◌*◌, ◌/◌, ◌^◌, ◌<◌}
use native.Mathlib.Nat.{lt_of_le_of_lt}
use native.Mathlib.Decide.{dec_lt}
use native.Mathlib.Omega.{arith}
use lib.Bits.{bit_and, bit_xor, and_le_r}
use lib.Dec.{ltb}
use borrow.Author.Tests.{lt-ltb, le-ltb}
use Rattle.automata.specs.Xor.{◌⊕◌}
use Rattle.automata.specs.Mask.{bit_of}
use Rattle.automata.proofs.Xor.{bool_cases, xor_false, xor_self, xor_comm, xor_assoc}
use Rattle.automata.proofs.Mask.{mask_lt, mask_bit}
use Rattle.rows.specs.Row.{width, levels, stripes}
use Rattle.rows.proofs.BitLaws.{bit_xor_lem, bit_and_lem, bit_high, bit_shr, bit_shl, bit_shl_low, bits_lt}
use Rattle.transpose.specs.Exchange.{flip}
use Rattle.transpose.proofs.FlipLaws.{flip_here, flip_flip, flip_ge, flip_ltb, flip_add, flip_sub}

-- ---- the places without bit b

stripes_lt : (b : ℕ) → stripes b < 2 ^ width
unfolding stripes
stripes_lt b = mask_lt width (λ k. not (bit_of k b))

stripes_bit : (b k : ℕ) → bit_of (stripes b) k ≡ not (bit_of k b) && ltb k width
unfolding stripes
stripes_bit b k = go (dec_lt k width)
  where
    go : Dec (k < width) → bit_of (stripes b) k ≡ not (bit_of k b) && ltb k width
    go (yes h) = mask_bit width (λ k. not (bit_of k b)) k h ∙ sym (ap (λ c. not (bit_of k b) && c) (lt-ltb k width h) ∙ and-true (not (bit_of k b)))
    go (no h) = bit_high width (stripes_lt b) k (omega arith) ∙ sym (ap (λ c. not (bit_of k b) && c) (le-ltb k width (omega arith)) ∙ and-false (not (bit_of k b)))

-- Bits at such places, moved up to their partners.
up_bit : (b x k : ℕ) → ((j : ℕ) → bit_of j b ≡ true → bit_of x j ≡ false) → bit_of (x * 2 ^ (2 ^ b)) k ≡ bit_of k b && bit_of x (flip b k)
up_bit b x k none = go (bool_cases (bit_of k b))
  where
    go : (bit_of k b ≡ true) ⊎ (bit_of k b ≡ false) → bit_of (x * 2 ^ (2 ^ b)) k ≡ bit_of k b && bit_of x (flip b k)
    go (inl e) = ap (bit_of (x * 2 ^ (2 ^ b))) (flip_sub b k e) ∙ bit_shl x (2 ^ b) (flip b k) ∙ sym (ap (λ c. c && bit_of x (flip b k)) e)
    go (inr e) = low (dec_lt k (2 ^ b)) ∙ sym (ap (λ c. c && bit_of x (flip b k)) e)
      where
        low : Dec (k < 2 ^ b) → bit_of (x * 2 ^ (2 ^ b)) k ≡ false
        low (yes h) = bit_shl_low x (2 ^ b) k h
        low (no h) = ap (bit_of (x * 2 ^ (2 ^ b))) back ∙ bit_shl x (2 ^ b) (k - 2 ^ b) ∙ none (k - 2 ^ b) (borrow (bool_cases (bit_of (k - 2 ^ b) b)))
          where
            back : k ≡ 2 ^ b + (k - 2 ^ b)
            back = omega arith

            borrow : (bit_of (k - 2 ^ b) b ≡ true) ⊎ (bit_of (k - 2 ^ b) b ≡ false) → bit_of (k - 2 ^ b) b ≡ true
            borrow (inl z) = z
            borrow (inr z) = absurd (false≢true (sym e ∙ ap (λ y. bit_of y b) (back ∙ sym (flip_add b (k - 2 ^ b) z)) ∙ flip_here b (k - 2 ^ b) ∙ ap not z))

-- The difference of x and y added to y, where c holds.
select : (c x y : Bool) → y ⊕ ((x ⊕ y) && c) ≡ cond c x y
select true x y = ap (λ z. y ⊕ z) (and-true (x ⊕ y) ∙ xor_comm x y) ∙ sym (xor_assoc y y x) ∙ ap (λ z. z ⊕ x) (xor_self y)
select false x y = ap (λ z. y ⊕ z) (and-false (x ⊕ y)) ∙ xor_false y

-- ---- the exchange

-- Where the bits that trade differ, at their places in q.
abbrev pub difference : ℕ → ℕ → ℕ → ℕ
difference b p q = bit_and (bit_xor (p / 2 ^ (2 ^ b)) q) (stripes b)

module _ (b p q : ℕ) (hb : b < levels) where
  difference_bit : (k : ℕ) → bit_of (difference b p q) k ≡ (bit_of p (2 ^ b + k) ⊕ bit_of q k) && (not (bit_of k b) && ltb k width)
  difference_bit k =
      bit_and_lem k (bit_xor (p / 2 ^ (2 ^ b)) q) (stripes b)
      ∙ ap₂ ◌&&◌ (bit_xor_lem k (p / 2 ^ (2 ^ b)) q ∙ ap (λ c. c ⊕ bit_of q k) (bit_shr p (2 ^ b) k)) (stripes_bit b k)

  difference_set : (k : ℕ) → bit_of k b ≡ true → bit_of (difference b p q) k ≡ false
  difference_set k e =
      difference_bit k ∙ ap (λ c. (bit_of p (2 ^ b + k) ⊕ bit_of q k) && (not c && ltb k width)) e ∙ and-false (bit_of p (2 ^ b + k) ⊕ bit_of q k)

  difference_clear : (k : ℕ) → bit_of k b ≡ false → bit_of (difference b p q) k ≡ (bit_of p (flip b k) ⊕ bit_of q k) && ltb k width
  difference_clear k e =
      difference_bit k ∙ ap₂ (λ i c. (bit_of p i ⊕ bit_of q k) && (not c && ltb k width)) (sym (flip_add b k e)) e

  -- None of these bits leaves the row on its way up.
  pub difference_fits : difference b p q * 2 ^ (2 ^ b) < 2 ^ width
  difference_fits = bits_lt (difference b p q * 2 ^ (2 ^ b)) width (λ k h.
      up_bit b (difference b p q) k difference_set ∙ ap (λ c. bit_of k b && c) (bit_high width below (flip b k) (flip_ge levels b k hb h)) ∙ and-false (bit_of k b))
    where
      below : difference b p q < 2 ^ width
      below = lt_of_le_of_lt (and_le_r (bit_xor (p / 2 ^ (2 ^ b)) q) (stripes b)) (stripes_lt b)

  pub first_bit : (k : ℕ) → bit_of (bit_xor p (difference b p q * 2 ^ (2 ^ b))) k ≡ cond (bit_of k b && ltb k width) (bit_of q (flip b k)) (bit_of p k)
  first_bit k =
      bit_xor_lem k p (difference b p q * 2 ^ (2 ^ b)) ∙ ap (λ c. bit_of p k ⊕ c) (up_bit b (difference b p q) k difference_set) ∙ go (bool_cases (bit_of k b))
    where
      go : (bit_of k b ≡ true) ⊎ (bit_of k b ≡ false)
          → bit_of p k ⊕ (bit_of k b && bit_of (difference b p q) (flip b k)) ≡ cond (bit_of k b && ltb k width) (bit_of q (flip b k)) (bit_of p k)
      go (inl e) =
          rw e (ap (λ c. bit_of p k ⊕ c) (difference_clear (flip b k) (flip_here b k ∙ ap not e)
          ∙ ap₂ (λ i c. (bit_of p i ⊕ bit_of q (flip b k)) && c) (flip_flip b k) (flip_ltb levels b k hb)
          ∙ ap (λ c. c && ltb k width) (xor_comm (bit_of p k) (bit_of q (flip b k))))
          ∙ select (ltb k width) (bit_of q (flip b k)) (bit_of p k))
      go (inr e) = rw e (xor_false (bit_of p k))

  pub second_bit : (k : ℕ) → bit_of (bit_xor q (difference b p q)) k ≡ cond (not (bit_of k b) && ltb k width) (bit_of p (flip b k)) (bit_of q k)
  second_bit k = bit_xor_lem k q (difference b p q) ∙ go (bool_cases (bit_of k b))
    where
      go : (bit_of k b ≡ true) ⊎ (bit_of k b ≡ false) → bit_of q k ⊕ bit_of (difference b p q) k ≡ cond (not (bit_of k b) && ltb k width) (bit_of p (flip b k)) (bit_of q k)
      go (inl e) = ap (λ c. bit_of q k ⊕ c) (difference_set k e) ∙ xor_false (bit_of q k) ∙ sym (ap (λ c. cond (not c && ltb k width) (bit_of p (flip b k)) (bit_of q k)) e)
      go (inr e) =
          ap (λ c. bit_of q k ⊕ c) (difference_clear k e) ∙ select (ltb k width) (bit_of p (flip b k)) (bit_of q k)
          ∙ sym (ap (λ c. cond (not c && ltb k width) (bit_of p (flip b k)) (bit_of q k)) e)
