-- The pivots below n in rising order, the lowest bit first: which are ahead, and those passed over between two of them.
--   Ahead P k n z    z has the pivots from k up to n
use mathlib.Core.Path.{◌≡◌, sym, ap, ap₂, subst, ◌∙◌}
use mathlib.Core.Bool.{Bool, true, false, ◌&&◌, and-true, and-false, true≢false}
use Prim.Native.Nat.{ℕ, zero, suc, ◌+◌, ◌-◌, ◌^◌, ◌<◌, ◌≤◌}
use native.Mathlib.Nat.{not-suc-le-zero}
use native.Mathlib.Decide.{dec_lt, ℕ_discrete}
use native.Mathlib.Omega.{arith}
use lib.Dec.{eqb}
use lib.Bits.{bit_and}
use lib.Count.{count_trailing_zeros}
use Rattle.automata.specs.Xor.{◌⊕◌}
use Rattle.automata.specs.Mask.{bit_of}
use Rattle.automata.proofs.Xor.{xor_false, xor_self, xor_assoc, eqb_same, eqb_differ}
use Rattle.rows.proofs.BitLaws.{bit_and_lem, bit_none, bit_high, bits_lt}
use Rattle.rows.proofs.LowestBit.{clear_lowest_lem, lowest_only}

pub record Ahead (P : ℕ → Bool) (k n z : ℕ) : Type 0 where
  pub behind : (i : ℕ) → i < k → bit_of z i ≡ false
  pub same : (i : ℕ) → k ≤ i → i < n → bit_of z i ≡ P i
  pub past : (i : ℕ) → n ≤ i → bit_of z i ≡ false

-- All of them are: y has every bit below n.
pub ahead_start : (p n y z : ℕ) → y < 2 ^ n → ((i : ℕ) → i < n → bit_of y i ≡ true) → z ≡ bit_and p y → Ahead (bit_of p) 0 n z
ahead_start p n y z h all e = record {
  behind = λ i g. absurd (not-suc-le-zero g);
  same = λ i g f. bit i ∙ ap (λ b. bit_of p i && b) (all i f) ∙ and-true (bit_of p i);
  past = λ i g. bit i ∙ ap (λ b. bit_of p i && b) (bit_high n h i g) ∙ and-false (bit_of p i);
}
  where
    bit : (i : ℕ) → bit_of z i ≡ bit_of p i && bit_of y i
    bit i = ap (λ x. bit_of x i) e ∙ bit_and_lem i p y

module _ (P : ℕ → Bool) (k n z : ℕ) (A : Ahead P k n z) where
  -- None is ahead.
  pub ahead_end : z ≡ 0 → (i : ℕ) → k ≤ i → i < n → P i ≡ false
  ahead_end e i h g = sym (A.same i h g) ∙ ap (λ x. bit_of x i) e ∙ bit_none i

  -- q is the next.
  module _ (q : ℕ) (set : bit_of z q ≡ true) (first : (i : ℕ) → i < q → bit_of z i ≡ false) where
    pub next_from : k ≤ q
    next_from = go (dec_lt q k)
      where
        go : Dec (q < k) → k ≤ q
        go (yes h) = absurd (true≢false (sym set ∙ A.behind q h))
        go (no h) = omega arith

    pub next_below : q < n
    next_below = go (dec_lt q n)
      where
        go : Dec (q < n) → q < n
        go (yes h) = h
        go (no h) = let g : n ≤ q = omega arith in absurd (true≢false (sym set ∙ A.past q g))

    pub next_pivot : P q ≡ true
    next_pivot = sym (A.same q next_from next_below) ∙ set

    -- Between them stands none.
    pub between : (i : ℕ) → k ≤ i → i < q → P i ≡ false
    between i h g = sym (A.same i h (omega (arith, next_below))) ∙ first i g

    -- Once it is passed, those behind it are ahead.
    pub ahead_next : (z' : ℕ) → 0 < z → z' ≡ bit_and z (z - 1) → Ahead P (q + 1) n z'
    ahead_next z' some e = record {
      behind = λ i h. low i h (ℕ_discrete i q);
      same = λ i h g. high i (omega arith) ∙ A.same i (omega (arith, next_from)) g;
      past = λ i h. high i (omega (arith, next_below)) ∙ A.past i h;
    }
      where
        short : z < 2 ^ n
        short = bits_lt z n A.past

        own : count_trailing_zeros n z ≡ q
        own = lowest_only n z q some short set first

        bit : (i : ℕ) → bit_of z i ≡ bit_of z' i ⊕ eqb i q
        bit i = clear_lowest_lem n z some short i ∙ ap₂ (λ x y. bit_of x i ⊕ eqb i y) (sym e) own

        back : (i : ℕ) → bit_of z' i ≡ bit_of z i ⊕ eqb i q
        back i = sym (ap (λ b. b ⊕ eqb i q) (bit i) ∙ xor_assoc (bit_of z' i) (eqb i q) (eqb i q) ∙ ap (λ b. bit_of z' i ⊕ b) (xor_self (eqb i q)) ∙ xor_false (bit_of z' i))

        high : (i : ℕ) → q < i → bit_of z' i ≡ bit_of z i
        high i h = back i ∙ ap (λ b. bit_of z i ⊕ b) (eqb_differ {m = i} {n = q} (omega arith)) ∙ xor_false (bit_of z i)

        low : (i : ℕ) → i < q + 1 → Dec (i ≡ q) → bit_of z' i ≡ false
        low i h (yes f) = ap (bit_of z') f ∙ back q ∙ ap₂ ◌⊕◌ set (eqb_same q)
        low i h (no f) = back i ∙ ap₂ ◌⊕◌ (first i (omega arith)) (eqb_differ {m = i} {n = q} f)

-- What holds at k, and goes on over a number that is no pivot, holds at q where none stands between.
pub over : {P : ℕ → Bool} {Q : ℕ → Type 0} → ((i : ℕ) → P i ≡ false → Q i → Q (i + 1)) → (k q : ℕ) → k ≤ q → ((i : ℕ) → k ≤ i → i < q → P i ≡ false) → Q k → Q q
over {P} {Q} step k q h none x = subst Q whole (go (q - k) (omega arith))
  where
    whole : k + (q - k) ≡ q
    whole = omega arith

    go : (g : ℕ) → k + g ≤ q → Q (k + g)
    go zero f = let z : k ≡ k + 0 = omega arith in subst Q z x
    go (suc g) f =
        let z : k + g + 1 ≡ k + suc g = omega arith in
        subst Q z (step (k + g) (none (k + g) (omega arith) (omega arith)) (go g (omega arith)))
