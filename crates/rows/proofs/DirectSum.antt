-- Two automata side by side: the bounds and the bits of their direct sum.
use mathlib.Core.Path.{◌≡◌, refl, sym, ap, ap₂, ◌∙◌}
use mathlib.Core.Bool.{Bool, false}
use Prim.Native.Nat.{ℕ, ◌+◌, ◌-◌, ◌*◌, ◌^◌, ◌<◌}
use native.Mathlib.Nat.{lt_of_lt_of_le}
use native.Mathlib.Decide.{dec_lt}
use native.Mathlib.Omega.{arith}
use lib.Pow.{pow_mono}
use lib.Bits.{bit_xor, xor_lt}
use Rattle.automata.specs.Xor.{◌⊕◌}
use Rattle.automata.specs.Mask.{bit_of}
use Rattle.automata.specs.Minimal.{SameBits}
use Rattle.automata.specs.Operations.{sum_of, joined}
use Rattle.automata.proofs.Xor.{xor_false}
use Rattle.rows.specs.Beside.{beside}
use Rattle.rows.specs.Machine.{auto_by}
use Rattle.rows.proofs.BitLaws.{bit_xor_lem, bit_high, bit_shl, bit_shl_low}
use Rattle.rows.proofs.BesideLaws.{if_low, if_high, shl_below}

-- ---- a row of the first beside a row of the second

pub pair_bits : (n x y : ℕ) → x < 2 ^ n → (j : ℕ) → bit_of (bit_xor x (y * 2 ^ n)) j ≡ joined n (bit_of x) (bit_of y) j
pair_bits n x y h j = bit_xor_lem j x (y * 2 ^ n) ∙ go (dec_lt j n)
  where
    go : Dec (j < n) → bit_of x j ⊕ bit_of (y * 2 ^ n) j ≡ joined n (bit_of x) (bit_of y) j
    go (yes g) = ap (λ b. bit_of x j ⊕ b) (bit_shl_low y n j g) ∙ xor_false (bit_of x j) ∙ sym (if_low j n (bit_of x j) (bit_of y (j - n)) g)
    go (no g) =
        ap₂ ◌⊕◌ (bit_high n h j (omega arith)) (ap (bit_of (y * 2 ^ n)) back ∙ bit_shl y n (j - n)) ∙ sym (if_high j n (bit_of x j) (bit_of y (j - n)) (omega arith))
      where
        back : j ≡ n + (j - n)
        back = omega arith

-- A row of the first with nothing beside it, and a row of the second likewise.
pub alone_bits : (n x : ℕ) → x < 2 ^ n → (j : ℕ) → bit_of x j ≡ joined n (bit_of x) (λ i. false) j
alone_bits n x h j = go (dec_lt j n)
  where
    go : Dec (j < n) → bit_of x j ≡ joined n (bit_of x) (λ i. false) j
    go (yes z) = sym (if_low j n (bit_of x j) false z)
    go (no z) = bit_high n h j (omega arith) ∙ sym (if_high j n (bit_of x j) false (omega arith))

pub moved_bits : (n y j : ℕ) → bit_of (y * 2 ^ n) j ≡ joined n (λ i. false) (bit_of y) j
moved_bits n y j = go (dec_lt j n)
  where
    go : Dec (j < n) → bit_of (y * 2 ^ n) j ≡ joined n (λ i. false) (bit_of y) j
    go (yes z) = bit_shl_low y n j z ∙ sym (if_low j n false (bit_of y (j - n)) z)
    go (no z) = ap (bit_of (y * 2 ^ n)) back ∙ bit_shl y n (j - n) ∙ sym (if_high j n false (bit_of y (j - n)) (omega arith))
      where
        back : j ≡ n + (j - n)
        back = omega arith

pub wider : (n m x : ℕ) → x < 2 ^ n → x < 2 ^ (n + m)
wider n m x h = lt_of_lt_of_le h (pow_mono (omega arith))

pub pair_lt : (n m x y : ℕ) → x < 2 ^ n → y < 2 ^ m → bit_xor x (y * 2 ^ n) < 2 ^ (n + m)
pair_lt n m x y h g = xor_lt (n + m) x (y * 2 ^ n) (wider n m x h) (shl_below n m y g)

-- ---- the matrices

module _ (a : ℕ) (F : ℕ → ℕ → ℕ) (n : ℕ) (G : ℕ → ℕ → ℕ) (m : ℕ) (hF : (l k : ℕ) → l < a → k < n → F l k < 2 ^ n) where
  pub beside_lt : ((l k : ℕ) → l < a → k < m → G l k < 2 ^ m) → (l k : ℕ) → l < a → k < n + m → beside F G n l k < 2 ^ (n + m)
  beside_lt hG l k p q = go (dec_lt k n)
    where
      go : Dec (k < n) → beside F G n l k < 2 ^ (n + m)
      go (yes g) = rw (if_low k n (F l k) (G l (k - n) * 2 ^ n) g) (wider n m (F l k) (hF l k p g))
      go (no g) = rw (if_high k n (F l k) (G l (k - n) * 2 ^ n) (omega arith)) (shl_below n m (G l (k - n)) (hG l (k - n) p (omega arith)))

  pub beside_bits : (i f i' f' : ℕ) → i < 2 ^ n → f < 2 ^ n → SameBits a (auto_by (beside F G n) (n + m) (bit_xor i (i' * 2 ^ n)) (bit_xor f (f' * 2 ^ n))) (sum_of (auto_by F n i f) (auto_by G m i' f'))
  beside_bits i f i' f' hi hf = record {
    states = refl;
    initial = λ k h. pair_bits n i i' hi k;
    final = λ k h. pair_bits n f f' hf k;
    step = λ l k j hl hk hj. go l k j hl (dec_lt k n);
  }
    where
      first : ℕ → ℕ → ℕ → Bool
      first l k = joined n (bit_of (F l k)) (λ j. false)

      second : ℕ → ℕ → ℕ → Bool
      second l k = joined n (λ j. false) (bit_of (G l (k - n)))

      go : (l k j : ℕ) → l < a → Dec (k < n) → bit_of (beside F G n l k) j ≡ (sum_of (auto_by F n i f) (auto_by G m i' f')).step l k j
      go l k j h (yes g) =
          ap (λ v. bit_of v j) (if_low k n (F l k) (G l (k - n) * 2 ^ n) g) ∙ alone_bits n (F l k) (hF l k h g) j
          ∙ sym (ap (λ r. r j) (if_low k n (first l k) (second l k) g))
      go l k j h (no g) =
          ap (λ v. bit_of v j) (if_high k n (F l k) (G l (k - n) * 2 ^ n) (omega arith)) ∙ moved_bits n (G l (k - n)) j
          ∙ sym (ap (λ r. r j) (if_high k n (first l k) (second l k) (omega arith)))
