-- Kronecker products of rows: their bits are those of the product automaton.
use mathlib.Core.Path.{◌≡◌, refl, sym, ap, subst, ◌∙◌}
use mathlib.Core.Bool.{◌&&◌}
use mathlib.Core.List.{List}
use Prim.Native.Nat.{ℕ, zero, suc, ◌+◌, ◌-◌, ◌*◌, ◌/◌, ◌%◌, ◌^◌, ◌<◌, ◌≤◌}
use native.Mathlib.Nat.{mul-zero, suc-mul, mul-le-mul_right, mod-lt, div-add-mod', div-lt_iff_lt-mul, lt_of_lt_of_le}
use native.Mathlib.Decide.{dec_lt}
use native.Mathlib.Numerals.{add-one}
use native.Mathlib.Omega.{arith}
use lib.Bits.{bit_xor}
use lib.Dec.{eqb}
use lib.Pow.{shl_lt, pow_mono}
use mathlib.Core.Bool.{cond}
use Rattle.automata.specs.Mask.{bit_of}
use Rattle.automata.specs.Automaton.{accepts}
use Rattle.automata.specs.Language.{intersection}
use Rattle.automata.specs.Minimal.{SameBits}
use Rattle.automata.specs.Operations.{meet_of}
use Rattle.automata.proofs.Xor.{xor_cong, xor_pick_family, eqb_same, eqb_differ}
use Rattle.automata.proofs.Minimal.{bits_language}
use Rattle.automata.proofs.Operations.{accepts_meet}
use Rattle.rows.specs.declared.Machine.{Machine}
use Rattle.rows.specs.Row.{width, mask}
use Rattle.rows.specs.Table.{at}
use Rattle.rows.specs.Machine.{auto, automaton_in, Bounded, Valid}
use Rattle.rows.specs.Product.{product}
use Rattle.rows.proofs.BitLaws.{bit_high, bit_shl, bit_shl_low}
use Rattle.rows.proofs.ProductLaws.{bit_product, product_lt}
use Rattle.direct_sum.specs.Filled.{Filled}
use Rattle.results.specs.Built.{Built}
use Rattle.results.proofs.BuiltLaws.{built}
use Rattle.intersection.specs.Kron.{kron, crossed}

-- ---- pairs of states

-- Member p of n groups of m ends by n * m.
pub group_end : (n m p : ℕ) → p < n → p * m + m ≤ n * m
group_end n m p h = subst (λ x. x ≤ n * m) (suc-mul p m) (mul-le-mul_right m h)

pub positive : (n m k : ℕ) → k < n * m → 0 < m
positive n zero k h = absurd (omega (arith, mul-zero n))
positive n (suc m) k h = omega arith

pub pair_first : (n m k : ℕ) → k < n * m → k / m < n
pair_first n m k h = (div-lt_iff_lt-mul {k = m} {x = k} {y = n} (positive n m k h)).1 h

pub pair_second : (n m k : ℕ) → k < n * m → k % m < m
pair_second n m k h = mod-lt k (positive n m k h)

-- A row moved up by a group stands within width.
pub group_start : (n m p : ℕ) → p < n → n * m ≤ width → p * m < width
group_start n zero p h g = omega (arith, mul-zero p)
group_start n (suc m) p h g = omega (arith, group_end n (suc m) p h)

-- ---- the bits of a product

-- y moved up by p groups of m has bits in group p alone.
moved_bit : (m y p q r : ℕ) → r < m → y < 2 ^ m → bit_of (y * 2 ^ (p * m)) (q * m + r) ≡ eqb p q && bit_of y r
moved_bit m y p q r g h = go (dec_lt p q) (dec_lt q p)
  where
    go : Dec (p < q) → Dec (q < p) → bit_of (y * 2 ^ (p * m)) (q * m + r) ≡ eqb p q && bit_of y r
    go (yes c) d =
        let b = group_end q m p c in
        let e : q * m + r ≡ p * m + (q * m + r - p * m) = omega arith in
        ap (bit_of (y * 2 ^ (p * m))) e ∙ bit_shl y (p * m) (q * m + r - p * m) ∙ bit_high m h (q * m + r - p * m) (omega arith)
        ∙ sym (ap (λ b. b && bit_of y r) (eqb_differ {m = p} {n = q} (λ z. omega arith)))
    go (no c) (yes d) =
        let b = group_end p m q d in
        bit_shl_low y (p * m) (q * m + r) (omega arith) ∙ sym (ap (λ b. b && bit_of y r) (eqb_differ {m = p} {n = q} (λ z. omega arith)))
    go (no c) (no d) =
        let e : p ≡ q = omega arith in
        ap (λ x. bit_of (y * 2 ^ (x * m)) (q * m + r)) e ∙ bit_shl y (q * m) r ∙ sym (ap (λ b. b && bit_of y r) (ap (λ x. eqb x q) e ∙ eqb_same q))

pub bit_kron : (n m x y : ℕ) → y < 2 ^ m → (k : ℕ) → k < n * m → bit_of (kron n m x y) k ≡ bit_of x (k / m) && bit_of y (k % m)
unfolding kron
bit_kron n m x y h k g =
    bit_product n x (λ p. y * 2 ^ (p * m)) k
    ∙ xor_cong n (λ p q. ap (λ b. bit_of x p && b) (ap (bit_of (y * 2 ^ (p * m))) (sym (div-add-mod' k m)) ∙ moved_bit m y p (k / m) (k % m) (pair_second n m k g) h))
    ∙ xor_pick_family n (k / m) (pair_first n m k g) (bit_of x) (bit_of y (k % m))

-- y moved up by a group below n.
moved_lt : (n m y p : ℕ) → y < 2 ^ m → p < n → y * 2 ^ (p * m) < 2 ^ (n * m)
moved_lt n m y p h g = lt_of_lt_of_le (shl_lt m (p * m) h) (pow_mono (omega (arith, group_end n m p g)))

pub kron_lt : (n m x y : ℕ) → y < 2 ^ m → kron n m x y < 2 ^ (n * m)
unfolding kron
kron_lt n m x y h = product_lt (n * m) n x (λ p. y * 2 ^ (p * m)) (λ p g. moved_lt n m y p h g)

pub group_fits : (n m y p : ℕ) → y < 2 ^ m → p < n → n * m ≤ width → y * 2 ^ (p * m) < 2 ^ width
group_fits n m y p h g w = lt_of_lt_of_le (moved_lt n m y p h g) (pow_mono w)

-- ---- the loop over the bits of x

pub kron_none : (m x y : ℕ) → kron 0 m x y ≡ 0
unfolding kron product
kron_none m x y = refl

pub kron_step : (p m x y : ℕ) → kron (p + 1) m x y ≡ bit_xor (kron p m x y) (cond (bit_of x p) (y * 2 ^ (p * m)) 0)
unfolding kron product
kron_step p m x y = rw add-one

-- ---- the product automaton in a table

module _ (a : ℕ) (t : List ℕ) (n i f : ℕ) (u : List ℕ) (m i' f' : ℕ) (ok : Bounded a t n i f) (ok' : Bounded a u m i' f') (s : List ℕ) (S : Filled a (n * m) (crossed t u n m) s) where
  pub meet_bounded : n * m ≤ width → Bounded a s (n * m) (kron n m i i') (kron n m f f')
  meet_bounded h = record {
    states = h;
    letters = ok.letters;
    size = S.size;
    initial = kron_lt n m i i' ok'.initial;
    finals = kron_lt n m f f' ok'.finals;
    rows = λ l k p q. subst (λ v. v < 2 ^ (n * m)) (sym (S.rows l k p q)) (kron_lt n m (at t l (k / m)) (at u l (k % m)) (ok'.rows l (k % m) p (pair_second n m k q)));
  }

  pub meet_bits : SameBits a (auto s (n * m) (kron n m i i') (kron n m f f')) (meet_of (auto t n i f) (auto u m i' f'))
  meet_bits = record {
    states = refl;
    initial = bit_kron n m i i' ok'.initial;
    final = bit_kron n m f f' ok'.finals;
    step = λ l k j hl hk hj. ap (λ v. bit_of v j) (S.rows l k hl hk) ∙ bit_kron n m (at t l (k / m)) (at u l (k % m)) (ok'.rows l (k % m) hl (pair_second n m k hk)) j hj;
  }

module _ (t u s : List ℕ) (g h : Machine) (ok : Valid t g) (ok' : Bounded g.letters u h.states (mask h.initial) (mask h.finals))
    (S : Filled g.letters (g.states * h.states) (crossed t u g.states h.states) s) (small : g.states * h.states ≤ width) where
  pub meet_built : (r : Machine) → r.letters ≡ g.letters → r.states ≡ g.states * h.states
      → mask r.initial ≡ kron g.states h.states (mask g.initial) (mask h.initial) → mask r.finals ≡ kron g.states h.states (mask g.finals) (mask h.finals)
      → Built g.letters (intersection (accepts (automaton_in t g)) (accepts (automaton_in u h))) s r
  meet_built r el es ei ef =
      let n = g.states in
      let m = h.states in
      let x = kron n m (mask g.initial) (mask h.initial) in
      let y = kron n m (mask g.finals) (mask h.finals) in
      built g.letters (intersection (accepts (automaton_in t g)) (accepts (automaton_in u h))) s r (n * m) x y el es ei ef
      (meet_bounded g.letters t n (mask g.initial) (mask g.finals) u m (mask h.initial) (mask h.finals) ok ok' s S small)
      (λ w ow. sym (accepts_meet (automaton_in t g) (automaton_in u h) w)
      ∙ sym (bits_language g.letters (auto s (n * m) x y) (meet_of (automaton_in t g) (automaton_in u h))
      (meet_bits g.letters t n (mask g.initial) (mask g.finals) u m (mask h.initial) (mask h.finals) ok ok' s S) w ow))
