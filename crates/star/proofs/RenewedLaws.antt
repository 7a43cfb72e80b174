-- Renewed rows and the row of the new state are the rows of the star, bit for bit.
use mathlib.Core.Path.{◌≡◌, refl, sym, ap, ap₂, ◌∙◌}
use mathlib.Core.Bool.{Bool, true, false, ◌&&◌, cond}
use Prim.Native.Nat.{ℕ, ◌+◌, ◌-◌, ◌^◌, ◌<◌}
use native.Mathlib.Nat.{one-mul}
use native.Mathlib.Decide.{dec_lt}
use native.Mathlib.Omega.{arith}
use lib.Bits.{bit_xor, xor_lt}
use lib.Dec.{ltb}
use Rattle.automata.specs.Xor.{◌⊕◌}
use Rattle.automata.specs.Mask.{bit_of}
use Rattle.automata.specs.Minimal.{SameBits}
use Rattle.automata.specs.Operations.{joined, star_of}
use Rattle.automata.specs.Row.{times}
use Rattle.rows.specs.Product.{product}
use Rattle.rows.specs.Machine.{auto_by}
use Rattle.rows.proofs.BitLaws.{bit_xor_lem, bit_when, when_lt, bit_one}
use Rattle.rows.proofs.BesideLaws.{if_low, if_high}
use Rattle.rows.proofs.ProductLaws.{bit_product, product_cong, product_lt}
use Rattle.rows.proofs.DirectSum.{wider, alone_bits, moved_bits, pair_bits}
use Rattle.star.specs.Renewed.{renewed, star_rows}

-- The row of the new state alone.
new_bits : (n j : ℕ) → j < n + 1 → bit_of (2 ^ n) j ≡ joined n (λ i. false) (λ i. true) j
new_bits n j h = ap (λ x. bit_of x j) (sym (one-mul (2 ^ n))) ∙ moved_bits n 1 j ∙ ap (λ b. cond (ltb j n) false b) (bit_one (j - n) (omega arith))

-- A final column, and the new state.
final_bits : (n f : ℕ) → f < 2 ^ n → (j : ℕ) → j < n + 1 → bit_of (bit_xor f (2 ^ n)) j ≡ joined n (bit_of f) (λ i. true) j
final_bits n f g j h = ap (λ x. bit_of (bit_xor f x) j) (sym (one-mul (2 ^ n))) ∙ pair_bits n f 1 g j ∙ ap (λ b. cond (ltb j n) (bit_of f j) b) (bit_one (j - n) (omega arith))

joined_left : (n : ℕ) (g h : ℕ → Bool) → ((j : ℕ) → g j ≡ h j) → (j : ℕ) → joined n g (λ i. false) j ≡ joined n h (λ i. false) j
joined_left n g h e j = ap (λ b. cond (ltb j n) b false) (e j)

module _ (a : ℕ) (F : ℕ → ℕ → ℕ) (n i f : ℕ) (hF : (l k : ℕ) → l < a → k < n → F l k < 2 ^ n) where
  -- The row that letter l reaches from the initial row; and row k with it where k is final.
  abbrev begun : ℕ → ℕ
  begun l = product n i (F l)

  abbrev again : ℕ → ℕ → ℕ
  again l k = bit_xor (F l k) (cond (bit_of f k) (begun l) 0)

  begun_lt : (l : ℕ) → l < a → begun l < 2 ^ n
  begun_lt l h = product_lt n n i (F l) (λ k p. hF l k h p)

  again_lt : (l k : ℕ) → l < a → k < n → again l k < 2 ^ n
  again_lt l k h p = xor_lt n (F l k) (cond (bit_of f k) (begun l) 0) (hF l k h p) (when_lt (bit_of f k) (begun l) n (begun_lt l h))

  pub star_lt : (l k : ℕ) → l < a → star_rows F n i f l k < 2 ^ (n + 1)
  star_lt l k h = go (dec_lt k n)
    where
      go : Dec (k < n) → star_rows F n i f l k < 2 ^ (n + 1)
      go (yes g) = rw (if_low k n (again l k) (begun l) g) (wider n 1 (again l k) (again_lt l k h g))
      go (no g) = rw (if_high k n (again l k) (begun l) (omega arith)) (wider n 1 (begun l) (begun_lt l h))

  -- The automaton of these rows, with the new state initial and final, is the star of the first.
  pub star_bits : f < 2 ^ n → SameBits a (auto_by (star_rows F n i f) (n + 1) (2 ^ n) (bit_xor f (2 ^ n))) (star_of (auto_by F n i f))
  star_bits hf = record {
    states = refl;
    initial = new_bits n;
    final = final_bits n f hf;
    step = λ l k j hl hk hj. go l k j hl (dec_lt k n);
  }
    where
      reached : ℕ → ℕ → Bool
      reached l = times (auto_by F n i f) l (bit_of i)

      first : ℕ → ℕ → ℕ → Bool
      first l k = joined n (λ j. bit_of (F l k) j ⊕ (bit_of f k && reached l j)) (λ j. false)

      second : ℕ → ℕ → Bool
      second l = joined n (reached l) (λ j. false)

      go : (l k j : ℕ) → l < a → Dec (k < n) → bit_of (star_rows F n i f l k) j ≡ (star_of (auto_by F n i f)).step l k j
      go l k j h (yes g) =
          ap (λ v. bit_of v j) (if_low k n (again l k) (begun l) g)
          ∙ alone_bits n (again l k) (again_lt l k h g) j
          ∙ joined_left n (bit_of (again l k)) (λ j. bit_of (F l k) j ⊕ (bit_of f k && reached l j))
          (λ j. bit_xor_lem j (F l k) (cond (bit_of f k) (begun l) 0) ∙ ap (λ b. bit_of (F l k) j ⊕ b) (bit_when (bit_of f k) (begun l) j ∙ ap (λ b. bit_of f k && b) (bit_product n i (F l) j))) j
          ∙ sym (ap (λ r. r j) (if_low k n (first l k) (second l) g))
      go l k j h (no g) =
          ap (λ v. bit_of v j) (if_high k n (again l k) (begun l) (omega arith))
          ∙ alone_bits n (begun l) (begun_lt l h) j
          ∙ joined_left n (bit_of (begun l)) (reached l) (bit_product n i (F l)) j
          ∙ sym (ap (λ r. r j) (if_high k n (first l k) (second l) (omega arith)))

-- Renewed by the row that was found on a copy of the rows below n.
pub renewed_same : (n i f r : ℕ) (M N : ℕ → ℕ) → ((k : ℕ) → k < n → M k ≡ N k) → r ≡ product n i M → (k : ℕ) → renewed n f r M k ≡ renewed n f (product n i N) N k
renewed_same n i f r M N same e k = go (dec_lt k n)
  where
    begun_same : r ≡ product n i N
    begun_same = e ∙ product_cong n i M N same

    go : Dec (k < n) → renewed n f r M k ≡ renewed n f (product n i N) N k
    go (yes g) =
        if_low k n (bit_xor (M k) (cond (bit_of f k) r 0)) r g ∙ ap₂ (λ x y. bit_xor x (cond (bit_of f k) y 0)) (same k g) begun_same
        ∙ sym (if_low k n (bit_xor (N k) (cond (bit_of f k) (product n i N) 0)) (product n i N) g)
    go (no g) = if_high k n (bit_xor (M k) (cond (bit_of f k) r 0)) r (omega arith) ∙ begun_same ∙ sym (if_high k n (bit_xor (N k) (cond (bit_of f k) (product n i N) 0)) (product n i N) (omega arith))
