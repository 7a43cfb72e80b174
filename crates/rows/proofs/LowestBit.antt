-- The lowest bit of a number: where it stands, and the number without it.
use mathlib.Core.Path.{◌≡◌, refl, sym, ap, ap₂, ◌∙◌}
use mathlib.Core.Bool.{true, false, ◌&&◌, and-false, true≢false}
use mathlib.Core.Logic.{◌⊎◌, inl, inr}
use Prim.Native.Nat.{ℕ, zero, suc, ◌-◌, ◌/◌, ◌%◌, ◌^◌, ◌<◌}
use native.Mathlib.Nat.{mod-lt, zero-lt-suc, lt_irrefl, not-suc-le-zero}
use native.Mathlib.Numerals.{add-one}
use native.Mathlib.Omega.{arith}
use lib.Arith.{lt-one}
use lib.Dec.{eqb, eqb-zero-suc, eqb-suc-zero, eqb-suc-suc}
use lib.Pow.{shr_lt}
use lib.Bits.{bit_and, and_shr, and_self}
use lib.Count.{count_trailing_zeros, under}
use Rattle.automata.specs.Xor.{◌⊕◌}
use Rattle.automata.specs.Mask.{bit_of}
use Rattle.automata.proofs.Xor.{xor_false}
use Rattle.automata.proofs.Mask.{bit_zero, bit_suc}
use Rattle.rows.proofs.BitLaws.{bit_and_lem}

half_lt : {x : ℕ} (k : ℕ) → x < 2 ^ suc k → x / 2 < 2 ^ k
half_lt {x} k h = shr_lt k 1 (rw add-one h)

digit : (x : ℕ) → (x % 2 ≡ 0) ⊎ (x % 2 ≡ 1)
digit x = go (x % 2) (mod-lt x (zero-lt-suc 1))
  where
    go : (d : ℕ) → d < 2 → (d ≡ 0) ⊎ (d ≡ 1)
    go zero h = inl refl
    go (suc zero) h = inr refl
    go (suc (suc d)) h = absurd (omega arith)

-- The lowest set bit is set.
pub lowest_set : (k x : ℕ) → 0 < x → x < 2 ^ k → (count_trailing_zeros k x < k) × (bit_of x (count_trailing_zeros k x) ≡ true)
unfolding count_trailing_zeros
lowest_set zero x p h = absurd (lt_irrefl 0 (rw (lt-one h) at p))
lowest_set (suc k) x p h = go (digit x) (λ q. lowest_set k (x / 2) q (half_lt k h))
  where
    go : (x % 2 ≡ 0) ⊎ (x % 2 ≡ 1) → (0 < x / 2 → (count_trailing_zeros k (x / 2) < k) × (bit_of (x / 2) (count_trailing_zeros k (x / 2)) ≡ true))
        → (under (x % 2) (count_trailing_zeros k (x / 2)) < suc k) × (bit_of x (under (x % 2) (count_trailing_zeros k (x / 2))) ≡ true)
    go (inl e) rest =
        let r = rest (omega arith) in
        rw e (omega (arith, r.0), bit_suc x (count_trailing_zeros k (x / 2)) ∙ r.1)
    go (inr e) rest = rw e (zero-lt-suc k, bit_zero x ∙ ap (λ d. eqb d 1) e)

-- x & (x - 1) is x without its lowest set bit.
pub clear_lowest_lem : (k x : ℕ) → 0 < x → x < 2 ^ k → (i : ℕ) → bit_of x i ≡ bit_of (bit_and x (x - 1)) i ⊕ eqb i (count_trailing_zeros k x)
unfolding count_trailing_zeros
clear_lowest_lem zero x p h = absurd (lt_irrefl 0 (rw (lt-one h) at p))
clear_lowest_lem (suc k) x p h = go (digit x) (λ q. clear_lowest_lem k (x / 2) q (half_lt k h))
  where
    even : x % 2 ≡ 1 → (x - 1) % 2 ≡ 0
    even e = omega arith

    half : bit_and x (x - 1) / 2 ≡ bit_and (x / 2) ((x - 1) / 2)
    half = and_shr x (x - 1) 1

    go : (x % 2 ≡ 0) ⊎ (x % 2 ≡ 1) → (0 < x / 2 → (i : ℕ) → bit_of (x / 2) i ≡ bit_of (bit_and (x / 2) (x / 2 - 1)) i ⊕ eqb i (count_trailing_zeros k (x / 2)))
        → (i : ℕ) → bit_of x i ≡ bit_of (bit_and x (x - 1)) i ⊕ eqb i (under (x % 2) (count_trailing_zeros k (x / 2)))
    go (inl e) rest zero =
        rw e (bit_zero x ∙ ap (λ d. eqb d 1) e
        ∙ sym (ap₂ ◌⊕◌ (bit_and_lem 0 x (x - 1) ∙ ap (λ b. b && bit_of (x - 1) 0) (bit_zero x ∙ ap (λ d. eqb d 1) e)) (eqb-zero-suc (count_trailing_zeros k (x / 2)))))
    go (inl e) rest (suc i) =
        rw e (bit_suc x i ∙ rest (omega arith) i
        ∙ sym (ap₂ ◌⊕◌ (bit_suc (bit_and x (x - 1)) i ∙ ap (λ y. bit_of y i) (half ∙ ap (bit_and (x / 2)) (omega arith))) (eqb-suc-suc i (count_trailing_zeros k (x / 2)))))
    go (inr e) rest zero =
        rw e (bit_zero x ∙ ap (λ d. eqb d 1) e
        ∙ sym (ap (λ b. b ⊕ true) (bit_and_lem 0 x (x - 1) ∙ ap (λ b. bit_of x 0 && b) (bit_zero (x - 1) ∙ ap (λ d. eqb d 1) (even e)) ∙ and-false (bit_of x 0))))
    go (inr e) rest (suc i) =
        rw e (bit_suc x i
        ∙ sym (ap₂ ◌⊕◌ (bit_suc (bit_and x (x - 1)) i ∙ ap (λ y. bit_of y i) (half ∙ ap (bit_and (x / 2)) (omega arith) ∙ and_self (x / 2))) (eqb-suc-zero i) ∙ xor_false (bit_of (x / 2) i)))

-- No bit stands below the lowest.
pub lowest_first : (k x : ℕ) → 0 < x → x < 2 ^ k → (i : ℕ) → i < count_trailing_zeros k x → bit_of x i ≡ false
unfolding count_trailing_zeros
lowest_first zero x p h i g = absurd (lt_irrefl 0 (rw (lt-one h) at p))
lowest_first (suc k) x p h i g = go (digit x) i g (λ q. lowest_first k (x / 2) q (half_lt k h))
  where
    go : (x % 2 ≡ 0) ⊎ (x % 2 ≡ 1) → (i : ℕ) → i < under (x % 2) (count_trailing_zeros k (x / 2)) → (0 < x / 2 → (i : ℕ) → i < count_trailing_zeros k (x / 2) → bit_of (x / 2) i ≡ false) → bit_of x i ≡ false
    go (inl e) zero g rest = bit_zero x ∙ ap (λ d. eqb d 1) e
    go (inl e) (suc i) g rest = bit_suc x i ∙ rest (omega arith) i (below (rw e at g))
      where
        below : suc i < suc (count_trailing_zeros k (x / 2)) → i < count_trailing_zeros k (x / 2)
        below z = omega arith
    go (inr e) i g rest = absurd (not-suc-le-zero (rw e at g))

-- A bit that is set, with none below it, is the lowest.
pub lowest_only : (k x q : ℕ) → 0 < x → x < 2 ^ k → bit_of x q ≡ true → ((i : ℕ) → i < q → bit_of x i ≡ false) → count_trailing_zeros k x ≡ q
lowest_only k x q p h e none =
    let above : q < count_trailing_zeros k x → ⊥ = λ g. true≢false (sym e ∙ lowest_first k x p h q g) in
    let below : count_trailing_zeros k x < q → ⊥ = λ g. true≢false (sym (lowest_set k x p h).1 ∙ none (count_trailing_zeros k x) g) in
    omega arith
