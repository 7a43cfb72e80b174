-- A row placed in a basis.
use mathlib.Core.Path.{◌≡◌, refl, sym, ap, ap₂, ◌∙◌}
use mathlib.Core.Bool.{Bool, true, false, ◌&&◌, ◌||◌, cond, and-false, true≢false}
use mathlib.Core.List.{List}
use mathlib.Core.Logic.{◌⊎◌, inl, inr}
use Prim.Native.Nat.{ℕ, ◌+◌, ◌^◌, ◌<◌, ◌≤◌}
use native.Mathlib.Nat.{lt_of_le_of_lt, lt_of_lt_of_le}
use native.Mathlib.Numerals.{add-one}
use native.Mathlib.Omega.{arith}
use lib.ListN.{length}
use lib.Dec.{eqb}
use lib.Pow.{pow_mono}
use lib.Bits.{bit_and, bit_xor, bit_or, and_le_l}
use Rattle.automata.specs.Xor.{◌⊕◌}
use Rattle.automata.specs.Mask.{bit_of}
use Rattle.automata.proofs.Xor.{bool_cases, xor_cong, xor_none, eqb_same, eqb_differ}
use Rattle.automata.proofs.Below.{find, up_to}
use Rattle.rows.specs.Product.{product}
use Rattle.rows.proofs.BitLaws.{bit_xor_lem, bit_and_lem, bit_or_lem, bit_none, bit_high, bit_pow, bit_ext}
use Rattle.rows.proofs.ProductLaws.{bit_product}
use Rattle.basis.specs.Basis.{cell, bits, written, Room}
use Rattle.basis.proofs.BasisLaws.{written_length, written_same, written_block, written_row}
use Rattle.elimination.specs.Place.{Folded, Unused, Added, BasisIn, Covered, LeftOf, Old, New}
use Rattle.elimination.specs.Echelon.{onto, rest, Extended}
use Rattle.elimination.proofs.EchelonLaws.{coordinates, coef_short, rest_below, room, echelon_add}

-- ---- a row added

added_rows : (σ n d p q x y : ℕ) (t t₁ : List ℕ) → n ≤ σ → q < σ → d < σ → Room σ t → Folded σ (λ j. (j < n) × (bit_of p j ≡ true)) 0 q x t t₁ → Added σ n d p q x y t (written σ (written σ t₁ 0 q x) 1 d y)
added_rows σ n d p q x y t t₁ w hq hd full F = record {
  base_old = λ j h e z k. ap (λ v. bit_of v k) (written_block σ t₂ 1 d y 0 j hd (omega arith) (omega arith) ∙ written_row σ t₁ 0 q x j (λ e. z (sym e))) ∙ F.rows j (h, e) k;
  base_new = written_block σ t₂ 1 d y 0 q hd hq (omega arith) ∙ written_same σ t₁ 0 q x room₁ (omega arith) hq;
  row_old = λ i h. written_row σ t₂ 1 d y i (omega arith) ∙ written_block σ t₁ 0 q x 1 i hq (omega arith) (omega arith) ∙ F.other 1 i (omega arith) (omega arith);
  row_new = written_same σ t₂ 1 d y (omega (arith, written_length σ t₁ 0 q x, F.size)) (omega arith) hd;
  other = λ l i h g. written_block σ t₂ 1 d y l i hd g (omega arith) ∙ written_block σ t₁ 0 q x l i hq g (omega arith) ∙ F.other l i (omega arith) g;
  size = written_length σ t₂ 1 d y ∙ written_length σ t₁ 0 q x ∙ F.size;
}
  where
    t₂ : List ℕ
    t₂ = written σ t₁ 0 q x

    room₁ : Room σ t₁
    room₁ = omega (arith, F.size)

-- What the calls give.
pub added_turn : (σ n d p q x y : ℕ) (t t₁ t₂ t₃ : List ℕ) → n ≤ σ → q < σ → d < σ → Room σ t → Folded σ (λ j. (j < n) × (bit_of p j ≡ true)) 0 q x t t₁
    → t₂ ≡ written σ t₁ 0 q x → t₃ ≡ written σ t₂ 1 d y → Added σ n d p q x y t t₃
added_turn σ n d p q x y t t₁ t₂ t₃ w hq hd full F h₂ h₃ = rw (h₃, h₂) (added_rows σ n d p q x y t t₁ w hq hd full F)

-- ---- coefficients that no table keeps

pub if_same : {X : Type 0} (m : ℕ) (x y : X) → cond (eqb m m) x y ≡ x
if_same m x y = ap (λ b. cond b x y) (eqb_same m)

pub if_other : {X : Type 0} (i m : ℕ) (x y : X) → (i ≡ m → ⊥) → cond (eqb i m) x y ≡ y
if_other i m x y h = ap (λ b. cond b x y) (eqb_differ {m = i} {n = m} h)

-- The rows found that make y, with the new row d.
abbrev pub own_of : ℕ → ℕ → (ℕ → Bool) → (ℕ → ℕ → Bool) → (ℕ → Bool) → ℕ → Bool
own_of n d P C y i = onto n P C y i ⊕ eqb i d

abbrev pub coef_of : (ℕ → ℕ → Bool) → (ℕ → ℕ → Bool) → (ℕ → Bool) → ℕ → ℕ → ℕ → Bool
coef_of E C own q j i = cond (eqb j q) (own i) (C j i ⊕ (E j q && own i))

-- ---- a row placed

-- The bits of y at the pivots are below the stride, as those of y are.
pub pivots_low : (σ n y p : ℕ) {z : ℕ} → z ≡ bit_and y p → y < 2 ^ n → n ≤ σ → z < 2 ^ σ
pivots_low σ n y p e h g = rw e (lt_of_le_of_lt (and_le_l y p) (lt_of_lt_of_le h (pow_mono g)))

or_left : (a b : Bool) → a || b ≡ false → a ≡ false
or_left true b e = e
or_left false b e = refl

or_right : (a b : Bool) → a || b ≡ false → b ≡ false
or_right true b e = absurd (true≢false e)
or_right false b e = e

-- What the calls give.
pub left_of_lem : (σ p y : ℕ) (t : List ℕ) (z e x : ℕ) → z ≡ bit_and y p → ((n : ℕ) → z < 2 ^ n → e ≡ product n z (cell σ t 0)) → x ≡ bit_xor y e → LeftOf σ p y t x
left_of_lem σ p y t z e x hz he hx n h = hx ∙ ap (bit_xor y) (he n (pivots_low n n y p hz h (omega arith)) ∙ ap (λ u. product n u (cell σ t 0)) hz)

-- A product with the pivots that y has.
pub on_pivots : (σ n p y : ℕ) (t : List ℕ) {z : ℕ} → z ≡ bit_and y p → (l x : ℕ) → x ≡ product n z (cell σ t l) → (k : ℕ) → bit_of x k ≡ onto n (bit_of p) (bits σ t l) (bit_of y) k
on_pivots σ n p y t {z} hz l x h k = ap (λ v. bit_of v k) h ∙ bit_product n z (cell σ t l) k ∙ xor_cong n (λ j g. ap (λ b. b && bits σ t l j k) (ap (λ v. bit_of v j) hz ∙ bit_and_lem j y p))

module _ (σ n d p v y : ℕ) (t : List ℕ) (C : ℕ → ℕ → Bool) (F : BasisIn σ n d p C t) (hy : y < 2 ^ n) (left : ℕ) (hl : LeftOf σ p y t left) where
  left_is : (k : ℕ) → bit_of left k ≡ rest n (bit_of p) (bits σ t 0) (bit_of y) k
  left_is k = ap (λ v. bit_of v k) (hl n hy) ∙ bit_xor_lem k y (product n (bit_and y p) (cell σ t 0)) ∙ ap (λ b. bit_of y k ⊕ b) (on_pivots σ n p y t refl 0 (product n (bit_and y p) (cell σ t 0)) refl k)

  -- Nothing is left.
  pub place_old : (c : ℕ → Bool) → ((i : ℕ) → c i ≡ onto n (bit_of p) C (bit_of y) i) → left ≡ 0 → Old σ d p v y C C c t t d p v
  place_old c hc none = record {
    count = refl;
    pivots = refl;
    used = refl;
    table = refl;
    coef = refl;
    sum = λ k. coordinates n d (bit_of p) (bits σ t 1) (bits σ t 0) C F (bit_of y) (λ k. sym (left_is k) ∙ ap (λ v. bit_of v k) none ∙ bit_none k) k
        ∙ xor_cong d (λ i h. ap (λ b. b && bits σ t 1 i k) (sym (hc i)));
    short = λ i h. hc i ∙ coef_short n d (bit_of p) (bits σ t 1) (bits σ t 0) C F (bit_of y) i h;
  }

  module _ (q : ℕ) (hq : bit_of left q ≡ true) where
    set_at : rest n (bit_of p) (bits σ t 0) (bit_of y) q ≡ true
    set_at = sym (left_is q) ∙ hq

    high : (k : ℕ) → n ≤ k → bit_of y k ≡ false
    high = bit_high n hy

    pivot_below : q < n
    pivot_below = rest_below n d (bit_of p) (bits σ t 1) (bits σ t 0) C F (bit_of y) high q set_at

    has_room : d < n
    has_room = room n d (bit_of p) (bits σ t 1) (bits σ t 0) C F (bit_of y) q pivot_below set_at

    -- The pivot is a bit of the row, and there is room for one more row.
    pub both_below : (q < n) × (d < n)
    both_below = (pivot_below, has_room)

    -- t₁ has the same basis rows and rows found as t, s is t₁ with the row added; C' are the coefficients there.
    pub place_new : Covered σ d v t → n ≤ σ → (t₁ s : List ℕ) → length t₁ ≡ length t → ((l i : ℕ) → l < 2 → i < σ → cell σ t₁ l i ≡ cell σ t l i) → Added σ n d p q left y t₁ s
        → (own : ℕ → Bool) → ((i : ℕ) → own i ≡ own_of n d (bit_of p) C (bit_of y) i)
        → (C' : ℕ → ℕ → Bool) → ((j i : ℕ) → j < n → bit_of p j ≡ true → (j ≡ q → ⊥) → C' j i ≡ C j i ⊕ (bits σ t 0 j q && own i)) → ((i : ℕ) → C' q i ≡ own i)
        → (c : ℕ → Bool) → ((i : ℕ) → c i ≡ eqb i d) → New σ n d y C' c t s (d + 1) (bit_xor p (2 ^ q)) (bit_or v y)
    place_new cover w t₁ s long same A own ho C' old new c hc = record {
      count = add-one d;
      room = has_room;
      basis = echelon_add n d (bit_of p) (bits σ t 1) (bits σ t 0) C F (bit_of y) q high set_at (bit_of (bit_xor p (2 ^ q))) (bits σ s 1) (bits σ s 0) C' extended;
      cover = λ i k h. up_to {Q = λ i. (k : ℕ) → bit_of (bit_or v y) k ≡ false → bits σ s 1 i k ≡ false} d
          (λ i h k f. ap (λ v. bit_of v k) (found i h) ∙ cover i k h (or_left (bit_of v k) (bit_of y k) (sym (bit_or_lem k v y) ∙ f)))
          (λ k f. ap (λ v. bit_of v k) A.row_new ∙ or_right (bit_of v k) (bit_of y k) (sym (bit_or_lem k v y) ∙ f)) i h k;
      own = hc;
      size = A.size ∙ long;
      row_old = found;
      row_new = A.row_new;
    }
      where
        found : (i : ℕ) → i < d → cell σ s 1 i ≡ cell σ t 1 i
        found i h = A.row_old i h ∙ same 1 i (omega arith) (omega (arith, has_room))

        extended : Extended n d (bit_of p) (bits σ t 1) (bits σ t 0) C (bit_of y) q (bit_of (bit_xor p (2 ^ q))) (bits σ s 1) (bits σ s 0) C'
        extended = record {
          row_old = λ i k h. ap (λ v. bit_of v k) (found i h);
          row_new = λ k. ap (λ v. bit_of v k) A.row_new;
          base_old = λ j k h f g. A.base_old j h f g k ∙ ap₂ (λ a b. bit_of a k ⊕ (bit_of a q && b)) (same 0 j (omega arith) (omega arith)) (left_is k);
          base_new = λ k. ap (λ v. bit_of v k) A.base_new ∙ left_is k;
          coef_old = λ j i h f g. old j i h f g ∙ ap (λ b. C j i ⊕ (bits σ t 0 j q && b)) (ho i);
          coef_new = λ i. new i ∙ ho i;
          pivots = λ j. bit_xor_lem j p (2 ^ q) ∙ ap (λ b. bit_of p j ⊕ b) (bit_pow q j);
        }

    -- The coefficients stand in block 2, changed before the row is added: u is the new row alone, own the rows that make its basis row.
    pub place_kept : C ≡ bits σ t 2 → Covered σ d v t → n ≤ σ → Room σ t → (c : ℕ) → ((i : ℕ) → bit_of c i ≡ onto n (bit_of p) (bits σ t 2) (bit_of y) i) → (u : ℕ) → u ≡ 2 ^ d → (own : ℕ) → own ≡ bit_xor c u
        → (t₁ t₂ s : List ℕ) → Folded σ (λ j. (j < n) × (bit_of p j ≡ true)) 2 q own t t₁ → t₂ ≡ written σ t₁ 2 q own → Added σ n d p q left y t₂ s
        → New σ n d y (bits σ s 2) (bit_of u) t s (d + 1) (bit_xor p (2 ^ q)) (bit_or v y)
    place_kept same cover w full c hc u hu own ho t₁ t₂ s F₁ h₂ A =
        place_new cover w t₂ s (ap length h₂ ∙ written_length σ t₁ 2 q own ∙ F₁.size) (λ l i h g. ap (λ x. cell σ x l i) h₂ ∙ written_block σ t₁ 2 q own l i q_in g (omega arith) ∙ F₁.other l i (omega arith) g) A (bit_of own)
        (λ i. ap (λ x. bit_of x i) ho ∙ bit_xor_lem i c u ∙ ap₂ ◌⊕◌ (hc i ∙ ap (λ K. onto n (bit_of p) K (bit_of y) i) (sym same)) (ap (λ x. bit_of x i) hu ∙ bit_pow d i))
        (bits σ s 2)
        (λ j i h f g. ap (λ x. bit_of x i) (A.other 2 j (omega arith) (omega arith) ∙ ap (λ x. cell σ x 2 j) h₂ ∙ written_row σ t₁ 2 q own j (λ x. g (sym x))) ∙ F₁.rows j (h, f) i ∙ ap (λ K. K j i ⊕ (bits σ t 0 j q && bit_of own i)) (sym same))
        (λ i. ap (λ x. bit_of x i) (A.other 2 q (omega arith) q_in ∙ ap (λ x. cell σ x 2 q) h₂ ∙ written_same σ t₁ 2 q own (omega (arith, F₁.size)) (omega arith) q_in))
        (bit_of u) (λ i. ap (λ x. bit_of x i) hu ∙ bit_pow d i)
      where
        q_in : q < σ
        q_in = omega (arith, pivot_below)

  -- A bit that is left is one of the n.
  none_left : ((q : ℕ) → q < n → bit_of left q ≡ true → ⊥) → left ≡ 0
  none_left h = bit_ext left 0 (λ q. clear q (bool_cases (bit_of left q)) ∙ sym (bit_none q))
    where
      clear : (q : ℕ) → (bit_of left q ≡ true) ⊎ (bit_of left q ≡ false) → bit_of left q ≡ false
      clear q (inl e) = absurd (h q (both_below q e).0 e)
      clear q (inr e) = e

  -- Where something is left, it has one of them.
  pub some_left : 0 < left → (q : ℕ) × (q < n) × (rest n (bit_of p) (bits σ t 0) (bit_of y) q ≡ true)
  some_left h = go (find n (bit_of left))
    where
      go : ((q : ℕ) × (q < n) × (bit_of left q ≡ true)) ⊎ ((i : ℕ) → i < n → bit_of left i ≡ false) → (q : ℕ) × (q < n) × (rest n (bit_of p) (bits σ t 0) (bit_of y) q ≡ true)
      go (inl (q, hq, e)) = (q, hq, set_at q e)
      go (inr z) = absurd (omega (arith, h, none_left (λ q g e. true≢false (sym e ∙ z q g))))

  -- As many rows are found as a row has bits, so that nothing is left.
  pub full_left : n ≤ d → left ≡ 0
  full_left full = none_left (λ q h e. omega (arith, (both_below q e).1))

-- Where no row found has bit q, no basis row has it.
pub unused : (σ n d p v q : ℕ) (t : List ℕ) (C : ℕ → ℕ → Bool) → BasisIn σ n d p C t → Covered σ d v t → Unused σ n p v q t
unused σ n d p v q t C F cover j h e z = F.sum j h e q ∙ xor_none d (λ i g. ap (λ b. C j i && b) (cover i q g z) ∙ and-false (C j i))

-- The basis rows stay while the coefficients change.
pub unused_after : (σ n p v q x : ℕ) (t t₁ t₂ : List ℕ) → n ≤ σ → q < σ → Room σ t → Folded σ (λ j. (j < n) × (bit_of p j ≡ true)) 2 q x t t₁ → t₂ ≡ written σ t₁ 2 q x → Unused σ n p v q t → Room σ t₂ × Unused σ n p v q t₂
unused_after σ n p v q x t t₁ t₂ w hq full F e U = (
  omega (arith, ap length e, written_length σ t₁ 2 q x, F.size),
  λ j h f z. ap (λ u. bits σ u 0 j q) e ∙ ap (λ u. bit_of u q) (written_block σ t₁ 2 q x 0 j hq (omega arith) (omega arith) ∙ F.other 0 j (omega arith) (omega arith)) ∙ U j h f z,
)
