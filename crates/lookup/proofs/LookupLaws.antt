-- Products by tables of four rows each: the rows in groups, a group doubled row by row, and the rows that a mask chooses.
use mathlib.Core.Path.{◌≡◌, refl, sym, ap, ap₂, ◌∙◌}
use mathlib.Core.Bool.{false, ◌&&◌, and_assoc}
use mathlib.Core.List.{List}
use Prim.Native.Nat.{ℕ, ◌+◌, ◌-◌, ◌*◌, ◌/◌, ◌%◌, ◌^◌, ◌<◌, ◌≤◌}
use native.Mathlib.Nat.{add_comm, add-zero, pow-suc, div-eq_of_lt, div-one, lt_of_le_of_lt, mod-lt, not-suc-le-zero, one-mul}
use native.Mathlib.Numerals.{add-one}
use native.Mathlib.Decide.{dec_lt}
use native.Mathlib.Omega.{arith}
use lib.ListN.{length, get_or, set, length-set}
use lib.Seq.{get_or-set_same, get_or-set_other}
use lib.Pow.{pow_pos, shr-shr, split}
use lib.Bits.{bit_and, bit_xor, and_le_r, and_mask, mask_lt, xor_zero_l, xor_zero_r, xor_shifted, xor_comm}
use Rattle.automata.specs.Xor.{◌⊕◌}
use Rattle.automata.specs.Mask.{bit_of}
use Rattle.automata.proofs.Xor.{xor_cong, xor_none, xor_append}
use Rattle.automata.proofs.Below.{up_to}
use Rattle.rows.specs.Product.{product}
use Rattle.rows.proofs.BitLaws.{bit_none, bit_xor_lem, bit_and_lem, bit_when, bit_shr, bit_shl_low}
use Rattle.rows.proofs.ProductLaws.{bit_product, product_by_bits, product_xor, product_unit}
use Rattle.lookup.specs.Lookup.{chosen, entry, Tabled, Doubled, Grouped}

-- ---- products in parts

-- The rows below m, and those from m on by the bits from m on.
product_append : (m k x : ℕ) (M : ℕ → ℕ) → product (m + k) x M ≡ bit_xor (product m x M) (product k (x / 2 ^ m) (λ i. M (m + i)))
product_append m k x M = sym (product_by_bits (m + k) x M (bit_xor (product m x M) (product k (x / 2 ^ m) (λ i. M (m + i)))) (λ j.
    bit_xor_lem j (product m x M) (product k (x / 2 ^ m) (λ i. M (m + i)))
    ∙ ap₂ ◌⊕◌ (bit_product m x M j) (bit_product k (x / 2 ^ m) (λ i. M (m + i)) j ∙ xor_cong k (λ i p. ap (λ b. b && bit_of (M (m + i)) j) (bit_shr x m i)))
    ∙ sym (xor_append m k (λ i. bit_of x i && bit_of (M i) j))))

-- No bit below n takes no row.
product_none : (n x : ℕ) (M : ℕ → ℕ) → ((i : ℕ) → i < n → bit_of x i ≡ false) → product n x M ≡ 0
product_none n x M h = sym (product_by_bits n x M 0 (λ j. bit_none j ∙ sym (xor_none n (λ i p. ap (λ b. b && bit_of (M i) j) (h i p)))))

-- Only the bits below n count.
product_mod : (n x : ℕ) (M : ℕ → ℕ) → product n (x % 2 ^ n) M ≡ product n x M
product_mod n x M =
    sym (ap (λ w. product n w M) whole ∙ product_xor n up low M ∙ ap (λ w. bit_xor w (product n low M)) (product_none n up M (bit_shl_low (x / 2 ^ n) n)) ∙ xor_zero_l (product n low M))
  where
    up : ℕ
    up = x / 2 ^ n * 2 ^ n

    low : ℕ
    low = x % 2 ^ n

    whole : x ≡ bit_xor up low
    whole = sym (xor_shifted (x / 2 ^ n) n low (mod-lt x (pow_pos n)) ∙ split x n)

-- Every width that x fits in gives one product.
product_wider : (n k x : ℕ) (M : ℕ → ℕ) → x < 2 ^ n → product (n + k) x M ≡ product n x M
product_wider n k x M h =
    product_append n k x M
    ∙ ap (bit_xor (product n x M)) (ap (λ w. product k w (λ i. M (n + i))) (div-eq_of_lt h) ∙ product_none k 0 (λ i. M (n + i)) (λ i p. bit_none i))
    ∙ xor_zero_r (product n x M)

pub product_width : (m n x : ℕ) (M : ℕ → ℕ) → x < 2 ^ m → x < 2 ^ n → product m x M ≡ product n x M
product_width m n x M h g = sym (product_wider m n x M h) ∙ ap (λ w. product w x M) (add_comm m n) ∙ product_wider n m x M g

-- ---- the rows that a mask chooses

-- Times them is times all rows, by the bits of the mask alone.
pub chosen_product : (m p y : ℕ) (M : ℕ → ℕ) → p < 2 ^ m → (n : ℕ) → bit_and y p < 2 ^ n → product m y (chosen p M) ≡ product n (bit_and y p) M
chosen_product m p y M h n g =
    product_by_bits m (bit_and y p) M (product m y (chosen p M)) (λ j. bit_product m y (chosen p M) j
    ∙ xor_cong m (λ i f. ap (λ b. bit_of y i && b) (bit_when (bit_of p i) (M i) j) ∙ sym (and_assoc (bit_of y i) (bit_of p i) (bit_of (M i) j)) ∙ ap (λ b. b && bit_of (M i) j) (sym (bit_and_lem i y p))))
    ∙ product_width m n (bit_and y p) M (lt_of_le_of_lt (and_le_r y p) h) g

-- ---- entries doubled one by one

pub doubled_none : (at h x : ℕ) (t : List ℕ) → Doubled at h 0 x t t
doubled_none at h x t = record { upper = λ v g. absurd (not-suc-le-zero g); lower = λ i g. refl; size = refl }

pub doubled_step : (at h m x : ℕ) (t s : List ℕ) → m < h → at + h + h ≤ length t → Doubled at h m x t s → Doubled at h (m + 1) x t (set s (at + h + m) (bit_xor (get_or s (at + m) 0) x))
doubled_step at h m x t s g room D = rw (add-one m) (record {
  upper = up_to {Q = λ v. get_or (set s (at + h + m) e) (at + h + v) 0 ≡ bit_xor (get_or t (at + v) 0) x} m
      (λ v f. get_or-set_other s (at + h + m) (at + h + v) e 0 (omega arith) ∙ D.upper v f)
      (get_or-set_same s (at + h + m) e 0 (omega (arith, D.size)) ∙ ap (λ w. bit_xor w x) (D.lower (at + m) (omega arith)));
  lower = λ i f. get_or-set_other s (at + h + m) i e 0 (omega arith) ∙ D.lower i f;
  size = length-set s (at + h + m) e ∙ D.size;
})
  where
    e : ℕ
    e = bit_xor (get_or s (at + m) 0) x

-- ---- a group doubled row by row

-- The first h entries from `at` on are products with four rows.
abbrev Entries : ℕ → (ℕ → ℕ) → ℕ → List ℕ → Type 0
Entries at N h t = (v : ℕ) → v < h → get_or t (at + v) 0 ≡ product 4 v N

-- One more row.
entries_double : (at c x : ℕ) (N : ℕ → ℕ) (t s : List ℕ) → c < 4 → x ≡ N c → Doubled at (2 ^ c) (2 ^ c) x t s → Entries at N (2 ^ c) t → Entries at N (2 ^ c + 2 ^ c) s
entries_double at c x N t s h e D E v g = go (dec_lt v (2 ^ c))
  where
    go : Dec (v < 2 ^ c) → get_or s (at + v) 0 ≡ product 4 v N
    go (yes f) = D.lower (at + v) (omega arith) ∙ E v f
    go (no f) =
        ap (λ i. get_or s i 0) place ∙ D.upper u low ∙ ap₂ bit_xor (E u low) (e ∙ sym (product_unit 4 c N h)) ∙ sym (product_xor 4 u (2 ^ c) N) ∙ ap (λ w. product 4 w N) back
      where
        u : ℕ
        u = v - 2 ^ c

        low : u < 2 ^ c
        low = omega arith

        place : at + v ≡ at + 2 ^ c + u
        place = omega arith

        back : bit_xor u (2 ^ c) ≡ v
        back = xor_comm u (2 ^ c) ∙ ap (λ w. bit_xor w u) (sym (one-mul (2 ^ c))) ∙ xor_shifted 1 c u low ∙ omega arith

-- Group g of the table t once the first i of its rows have doubled its entries.
pub record Doubling (g : ℕ) (M : ℕ → ℕ) (i : ℕ) (t s : List ℕ) : Type 0 where
  pub entries : Entries (g * 16) (λ j. M (g * 4 + j)) (2 ^ i) s
  pub lower : (j : ℕ) → j < g * 16 → get_or s j 0 ≡ get_or t j 0
  pub size : length s ≡ length t

-- The first entry takes no row.
pub doubling_none : (g : ℕ) (M : ℕ → ℕ) (t : List ℕ) → g * 16 < length t → Doubling g M 0 t (set t (g * 16) 0)
doubling_none g M t h = record {
  entries = λ v f.
      let z : v ≡ 0 = omega arith in
      rw (z, add-zero) (get_or-set_same t (g * 16) 0 0 h ∙ sym (product_none 4 0 (λ j. M (g * 4 + j)) (λ i p. bit_none i)));
  lower = λ j f. get_or-set_other t (g * 16) j 0 0 (omega arith);
  size = length-set t (g * 16) 0;
}

pub doubling_step : (g i h x : ℕ) (M : ℕ → ℕ) (t s s' : List ℕ) → i < 4 → h ≡ 2 ^ i → x ≡ M (g * 4 + i) → Doubled (g * 16) h h x s s' → Doubling g M i t s → Doubling g M (i + 1) t s'
doubling_step g i h x M t s s' few eh ex D G = record {
  entries = rw (twice i) (entries_double (g * 16) i x (λ j. M (g * 4 + j)) s s' few ex (rw eh at D) G.entries);
  lower = λ j f. D.lower j (omega arith) ∙ G.lower j f;
  size = D.size ∙ G.size;
}
  where
    twice : (i : ℕ) → 2 ^ (i + 1) ≡ 2 ^ i + 2 ^ i
    twice i = rw (add-one i, pow-suc 2 i) (omega arith)

pub doubling_end : (g : ℕ) (M : ℕ → ℕ) (t s : List ℕ) → Doubling g M 4 t s → Grouped g M t s
doubling_end g M t s G = record { entries = G.entries; lower = G.lower; size = G.size }

-- ---- the groups

pub tabled_none : (M : ℕ → ℕ) (t : List ℕ) → Tabled 0 M t
unfolding Tabled
tabled_none M t g v h = absurd (not-suc-le-zero h)

pub tabled_step : (k : ℕ) (M : ℕ → ℕ) (t s : List ℕ) → Tabled k M t → Grouped k M t s → Tabled (k + 1) M s
unfolding Tabled
tabled_step k M t s T G = rw (add-one k) (λ g v h. up_to {Q = λ g. (v : ℕ) → v < 16 → get_or s (g * 16 + v) 0 ≡ entry M g v} k (λ g f v q. G.lower (g * 16 + v) (omega arith) ∙ T g v f q) G.entries g h v)

-- ---- a product, group by group

-- No group is passed.
pub lookup_none : (x : ℕ) (M : ℕ → ℕ) → 0 ≡ product 0 x M
unfolding product
lookup_none x M = refl

pub bits_none : (x : ℕ) → x ≡ x / 2 ^ 0
bits_none x = sym (div-one x)

-- The four bits that name an entry.
pub low_four : (z : ℕ) → bit_and z 15 < 16
low_four z = mask_lt z 4

-- Group g: z are the bits to come, y is the product with the groups below g.
pub lookup_step : (k g : ℕ) (M : ℕ → ℕ) (t : List ℕ) (x z y : ℕ) → Tabled k M t → g < k → z ≡ x / 2 ^ (g * 4) → y ≡ product (g * 4) x M → bit_xor y (get_or t (g * 16 + bit_and z 15) 0) ≡ product ((g + 1) * 4) x M
unfolding Tabled
lookup_step k g M t x z y T h ez ey =
    ap₂ bit_xor ey (T g (bit_and z 15) h (low_four z) ∙ ap (λ v. product 4 v N) (and_mask z 4) ∙ product_mod 4 z N ∙ ap (λ w. product 4 w N) ez) ∙ sym (product_append (g * 4) 4 x M) ∙ ap (λ n. product n x M) next
  where
    N : ℕ → ℕ
    N i = M (g * 4 + i)

    next : g * 4 + 4 ≡ (g + 1) * 4
    next = omega arith

pub bits_step : (g x z : ℕ) → z ≡ x / 2 ^ (g * 4) → z / 16 ≡ x / 2 ^ ((g + 1) * 4)
bits_step g x z e = ap (λ w. w / 16) e ∙ shr-shr x (g * 4) 4 ∙ ap (λ n. x / 2 ^ n) next
  where
    next : g * 4 + 4 ≡ (g + 1) * 4
    next = omega arith
