-- All stages: where the bits from b on are exchanged, and in the end every one, so that rows are places and places rows.
use mathlib.Core.Path.{◌≡◌, refl, sym, ap, ap₂, subst, ◌∙◌}
use mathlib.Core.Bool.{Bool, true, false, not, ◌&&◌, and-false, cond}
use mathlib.Core.List.{List}
use mathlib.Core.Logic.{◌⊎◌, inl, inr}
use Prim.Native.Nat.{ℕ, suc, ◌+◌, ◌^◌, ◌<◌, ◌≤◌}
use native.Mathlib.Nat.{not-suc-le-zero, lt_of_lt_of_le, le_trans, le_refl}
use native.Mathlib.Decide.{dec_lt}
use native.Mathlib.Numerals.{add-one}
use native.Mathlib.Omega.{arith}
use lib.Dec.{ltb}
use lib.Pow.{pow_mono}
use borrow.Author.Tests.{lt-ltb, le-ltb}
use Rattle.automata.specs.Xor.{◌⊕◌}
use Rattle.automata.specs.Mask.{bit_of}
use Rattle.automata.proofs.Xor.{bool_cases, xor_zero, xor_not, xor_comm}
use Rattle.automata.proofs.Below.{up_to}
use Rattle.rows.specs.Row.{width, levels}
use Rattle.rows.specs.Table.{at, row}
use Rattle.rows.proofs.BitLaws.{bit_high, bit_ext, bits_lt}
use Rattle.transpose.specs.Exchange.{padded, flip, exchanged, HasRows, OnlyBlock}
use Rattle.transpose.specs.Transposed.{Transposed}
use Rattle.transpose.proofs.FlipLaws.{flip_here, flip_there, flip_lt}
use Rattle.transpose.proofs.BlockLaws.{only_then, padded_low, padded_high, padded_thin}

-- ---- numbers mixed

-- z has the bits of x below b, and those of y from b on.
abbrev Mixed : ℕ → ℕ → ℕ → ℕ → Type 0
Mixed b x y z = ((c : ℕ) → c < b → bit_of z c ≡ bit_of x c) × ((c : ℕ) → b ≤ c → bit_of z c ≡ bit_of y c)

-- One bit more from x, which may have changed there, as may y.
mixed_more : (b x y x' y' z : ℕ) → ((c : ℕ) → (c ≡ b → ⊥) → bit_of x' c ≡ bit_of x c) → ((c : ℕ) → (c ≡ b → ⊥) → bit_of y' c ≡ bit_of y c) → bit_of x' b ≡ bit_of y b
    → Mixed b x y z → Mixed (suc b) x' y' z
mixed_more b x y x' y' z hx hy e M = (
  up_to b (λ c h. M.0 c h ∙ sym (hx c (omega arith))) (M.1 b (le_refl b) ∙ sym e),
  λ c h. M.1 c (omega arith) ∙ sym (hy c (omega arith)),
)

mixed_all : (w x y z : ℕ) → x < 2 ^ w → y < 2 ^ w → Mixed w x y z → z ≡ x
mixed_all w x y z hx hy M = bit_ext z x (λ c. go c (dec_lt c w))
  where
    go : (c : ℕ) → Dec (c < w) → bit_of z c ≡ bit_of x c
    go c (yes h) = M.0 c h
    go c (no h) = M.1 c (omega arith) ∙ bit_high w hy c (omega arith) ∙ sym (bit_high w hx c (omega arith))

-- ---- matrices

-- In the first n rows, T is A with the bits from b on exchanged at the places below width, and has no bit at others.
pub record Turned (n b : ℕ) (A T : ℕ → ℕ → Bool) : Type 0 where
  pub inside : (r k i j : ℕ) → r < n → k < width → Mixed b r k i → Mixed b k r j → T r k ≡ A i j
  pub outside : (r k : ℕ) → r < n → width ≤ k → T r k ≡ false

-- No bit exchanged: A has no row and no place from 2 ^ w on.
turned_start : (w : ℕ) (A T : ℕ → ℕ → Bool) → w ≤ levels → ((r k : ℕ) → 2 ^ w ≤ r → A r k ≡ false) → ((r k : ℕ) → 2 ^ w ≤ k → A r k ≡ false)
    → ((r k : ℕ) → r < 2 ^ w → T r k ≡ A r k) → Turned (2 ^ w) w A T
turned_start w A T hw no_row no_place e = record {
  inside = λ r k i j hr hk hi hj. e r k hr ∙ go r k i j hr hi hj (dec_lt k (2 ^ w));
  outside = λ r k hr hk. e r k hr ∙ no_place r k (le_trans (pow_mono hw) hk);
}
  where
    -- Were row i below 2 ^ w, so would k be, whose high bits it has.
    far : (r k i : ℕ) → Mixed w r k i → (k < 2 ^ w → ⊥) → Dec (i < 2 ^ w) → 2 ^ w ≤ i
    far r k i M h (yes z) = absurd (h (bits_lt k w (λ c g. sym (M.1 c g) ∙ bit_high w z c g)))
    far r k i M h (no z) = omega arith

    go : (r k i j : ℕ) → r < 2 ^ w → Mixed w r k i → Mixed w k r j → Dec (k < 2 ^ w) → A r k ≡ A i j
    go r k i j hr hi hj (yes h) = sym (ap₂ A (mixed_all w r k i hr h hi) (mixed_all w k r j h hr hj))
    go r k i j hr hi hj (no h) = no_place r k (omega arith) ∙ sym (no_row i j (far r k i hi h (dec_lt i (2 ^ w))))

turned_step : (w b : ℕ) (A T T' : ℕ → ℕ → Bool) → w ≤ levels → b < w → ((r k : ℕ) → r < 2 ^ w → T' r k ≡ exchanged b T r k) → Turned (2 ^ w) (suc b) A T
    → Turned (2 ^ w) b A T'
turned_step w b A T T' hw hb e S = record {
  inside = λ r k i j hr hk hi hj. e r k hr ∙ go r k i j hr hk hi hj (bool_cases (bit_of r b ⊕ bit_of k b));
  outside = λ r k hr hk.
      e r k hr ∙ ap (λ c. cond ((bit_of r b ⊕ bit_of k b) && c) (T (flip b r) (flip b k)) (T r k)) (le-ltb k width hk)
      ∙ ap (λ c. cond c (T (flip b r) (flip b k)) (T r k)) (and-false (bit_of r b ⊕ bit_of k b)) ∙ S.outside r k hr hk;
}
  where
    opposite : (x y : Bool) → x ⊕ y ≡ true → not x ≡ y
    opposite x y z = xor_zero (xor_not x y ∙ ap not z)

    go : (r k i j : ℕ) → r < 2 ^ w → k < width → Mixed b r k i → Mixed b k r j → (bit_of r b ⊕ bit_of k b ≡ true) ⊎ (bit_of r b ⊕ bit_of k b ≡ false) → exchanged b T r k ≡ A i j
    go r k i j hr hk hi hj (inl z) =
        ap₂ (λ c d. cond (c && d) (T (flip b r) (flip b k)) (T r k)) z (lt-ltb k width hk)
        ∙ S.inside (flip b r) (flip b k) i j (flip_lt w b r hb hr) (flip_lt levels b k (lt_of_lt_of_le hb hw) hk)
        (mixed_more b r k (flip b r) (flip b k) i (flip_there b r) (flip_there b k) (flip_here b r ∙ opposite (bit_of r b) (bit_of k b) z) hi)
        (mixed_more b k r (flip b k) (flip b r) j (flip_there b k) (flip_there b r) (flip_here b k ∙ opposite (bit_of k b) (bit_of r b) (xor_comm (bit_of k b) (bit_of r b) ∙ z)) hj)
    go r k i j hr hk hi hj (inr z) =
        ap (λ c. cond (c && ltb k width) (T (flip b r) (flip b k)) (T r k)) z
        ∙ S.inside r k i j hr hk
        (mixed_more b r k r k i (λ c h. refl) (λ c h. refl) (xor_zero z) hi)
        (mixed_more b k r k r j (λ c h. refl) (λ c h. refl) (sym (xor_zero z)) hj)

-- Every bit exchanged: A has no row from width on.
turned_end : (n : ℕ) (A T : ℕ → ℕ → Bool) → ((r k : ℕ) → width ≤ r → A r k ≡ false) → Turned n 0 A T → (r k : ℕ) → r < n → T r k ≡ A k r
turned_end n A T no_row S r k h = go (dec_lt k width)
  where
    all : (x y : ℕ) → Mixed 0 x y y
    all x y = (λ c z. absurd (not-suc-le-zero z), λ c z. refl)

    go : Dec (k < width) → T r k ≡ A k r
    go (yes g) = S.inside r k k r h g (all r k) (all k r)
    go (no g) = S.outside r k h (omega arith) ∙ sym (no_row k r (omega arith))

-- ---- the block

pub turn_start : (l w : ℕ) (t : List ℕ) → w ≤ levels → ((i : ℕ) → i < 2 ^ w → at t l i < 2 ^ (2 ^ w)) → Turned (2 ^ w) w (padded (2 ^ w) (row t l)) (row t l)
turn_start l w t hw low =
    turned_start w (padded (2 ^ w) (row t l)) (row t l) hw (padded_high (2 ^ w) (row t l)) (padded_thin l (2 ^ w) (2 ^ w) t low)
    (λ r k h. sym (padded_low (2 ^ w) (row t l) r k h))

pub turn_step : (l w b : ℕ) (A : ℕ → ℕ → Bool) (s s' : List ℕ) → w ≤ levels → b < w → HasRows l (2 ^ w) (exchanged b (row s l)) s' → Turned (2 ^ w) (suc b) A (row s l)
    → Turned (2 ^ w) b A (row s' l)
unfolding HasRows
turn_step l w b A s s' hw hb X S = turned_step w b A (row s l) (row s' l) hw hb X S

pub turn_end : (l w : ℕ) (t s : List ℕ) → w ≤ levels → Turned (2 ^ w) 0 (padded (2 ^ w) (row t l)) (row s l) → HasRows l (2 ^ w) (λ i k. padded (2 ^ w) (row t l) k i) s
unfolding HasRows
turn_end l w t s hw S = turned_end (2 ^ w) (padded (2 ^ w) (row t l)) (row s l) (λ r k h. padded_high (2 ^ w) (row t l) r k (le_trans (pow_mono hw) h)) S

-- ---- the table, block by block

-- The first l blocks are transposed, the others are as they were.
pub record Turning (l n : ℕ) (t s : List ℕ) : Type 0 where
  pub done : Transposed l n t s
  pub rest : (m i : ℕ) → l ≤ m → i < width → at s m i ≡ at t m i

-- The matrix in the next block is within bounds.
pub turning_low : (a l n : ℕ) (t s : List ℕ) → l < a → n ≤ width → ((l i : ℕ) → l < a → i < n → at t l i < 2 ^ n) → Turning l n t s → (i : ℕ) → i < n → at s l i < 2 ^ n
turning_low a l n t s p h low T i q = subst (λ v. v < 2 ^ n) (sym (T.rest l i (le_refl l) (omega arith))) (low l i p q)

-- A block whose rows from n on are cleared, as in c, and that is turned then, as in s.
turned_block : (l n w : ℕ) (t u c s : List ℕ) → w ≤ levels → n ≤ 2 ^ w → ((i : ℕ) → i < width → at u l i ≡ at t l i)
    → HasRows l (2 ^ w) (padded n (row u l)) c → HasRows l (2 ^ w) (λ i k. padded (2 ^ w) (row c l) k i) s → HasRows l n (λ i k. padded n (row t l) k i) s
unfolding HasRows
turned_block l n w t u c s hw hn same C T i k h = T i k (lt_of_lt_of_le h hn) ∙ go (dec_lt k (2 ^ w))
  where
    go : Dec (k < 2 ^ w) → padded (2 ^ w) (row c l) k i ≡ padded n (row t l) k i
    go (yes g) = padded_low (2 ^ w) (row c l) k i g ∙ C k i g ∙ ap (λ v. ltb k n && bit_of v i) (same k (lt_of_lt_of_le g (pow_mono hw)))
    go (no g) = padded_high (2 ^ w) (row c l) k i (omega arith) ∙ sym (padded_high n (row t l) k i (le_trans hn (omega arith)))

transposed_step : (l n : ℕ) (t u s : List ℕ) → n ≤ width → OnlyBlock l u s × HasRows l n (λ i k. padded n (row t l) k i) s → Transposed l n t u → Transposed (l + 1) n t s
unfolding HasRows
transposed_step l n t u s h O M = rw add-one (record {
  rows = λ x i p q j g. up_to {Q = λ x. bit_of (at s x i) j ≡ bit_of (at t x j) i} l
      (λ x p. ap (λ v. bit_of v j) (O.0.others x i (omega arith) (omega arith)) ∙ M.rows x i p q j g)
      (O.1 i j q ∙ ap (λ c. c && bit_of (at t l j) i) (lt-ltb j n g)) x p;
  low = λ x i p q. up_to {Q = λ x. at s x i < 2 ^ n} l
      (λ x p. subst (λ v. v < 2 ^ n) (sym (O.0.others x i (omega arith) (omega arith))) (M.low x i p q))
      (bits_lt (at s l i) n (λ k g. O.1 i k q ∙ ap (λ c. c && bit_of (at t l k) i) (le-ltb k n g))) x p;
  size = O.0.size;
})

pub turning_step : (l n w : ℕ) (t u c s : List ℕ) → n ≤ width → w ≤ levels → n ≤ 2 ^ w → OnlyBlock l u c × HasRows l (2 ^ w) (padded n (row u l)) c
    → OnlyBlock l c s × HasRows l (2 ^ w) (λ i k. padded (2 ^ w) (row c l) k i) s → Turning l n t u → Turning (l + 1) n t s
turning_step l n w t u c s h hw hn C T R = record {
  done = transposed_step l n t u s h (only_then l u c s C.0 T.0, turned_block l n w t u c s hw hn (λ i q. R.rest l i (le_refl l) q) C.1 T.1) R.done;
  rest = λ m i p q. T.0.others m i q (omega arith) ∙ C.0.others m i q (omega arith) ∙ R.rest m i (omega arith) q;
}
