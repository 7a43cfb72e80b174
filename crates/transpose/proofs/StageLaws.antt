-- One stage: the pairs of rows exchange bit b one after another, and those whose lower row is below q have done so.
use mathlib.Core.Path.{◌≡◌, refl, sym, ap, ap₂, subst, ◌∙◌}
use mathlib.Core.Bool.{Bool, true, false, not, ◌&&◌, and-false, false≢true, cond}
use mathlib.Core.List.{List}
use mathlib.Core.Logic.{◌⊎◌, inl, inr}
use Prim.Native.Nat.{ℕ, suc, ◌+◌, ◌-◌, ◌*◌, ◌^◌, ◌<◌, ◌≤◌, zero-le}
use native.Mathlib.Nat.{lt_of_lt_of_le, lt_of_le_of_lt, lt_of_mul-lt-mul_right, mul-le-mul_right, suc-mul, pow-suc}
use native.Mathlib.Decide.{ℕ_discrete, dec_lt}
use native.Mathlib.Omega.{arith}
use lib.Bits.{bit_xor, xor_shifted}
use lib.Dec.{leb, ltb}
use lib.ListN.{length}
use lib.Pow.{pow-add, pow_mono}
use borrow.Author.Tests.{eq-eqb, lt-ltb, le-ltb, lt-leb, le-leb}
use Rattle.automata.specs.Xor.{◌⊕◌}
use Rattle.automata.specs.Mask.{bit_of}
use Rattle.automata.proofs.Xor.{bool_cases, eqb_differ}
use Rattle.rows.specs.Row.{width, levels}
use Rattle.rows.specs.Table.{blocks, size, at, row, stored}
use Rattle.rows.proofs.BitLaws.{bit_xor_lem, bit_high, bit_shl_low}
use Rattle.rows.proofs.TableLaws.{length_stored, stored_same, stored_row}
use Rattle.transpose.specs.Exchange.{flip, exchanged, lower, swapped, staged, HasRows, OnlyBlock}
use Rattle.transpose.proofs.FlipLaws.{flip_here, flip_flip, flip_lt, flip_add, flip_sub}
use Rattle.transpose.proofs.SwapLaws.{difference, first_bit, second_bit}
use Rattle.transpose.proofs.BlockLaws.{only_start, only_stored}

-- ---- the lower row of a pair

lower_clear : (b r : ℕ) → bit_of (lower b r) b ≡ false
lower_clear b r = go (bool_cases (bit_of r b))
  where
    go : (bit_of r b ≡ true) ⊎ (bit_of r b ≡ false) → bit_of (lower b r) b ≡ false
    go (inl e) = ap (λ c. bit_of (cond c (flip b r) r) b) e ∙ flip_here b r ∙ ap not e
    go (inr e) = ap (λ c. bit_of (cond c (flip b r) r) b) e ∙ e

lower_le : (b r : ℕ) → lower b r ≤ r
lower_le b r = go (bool_cases (bit_of r b))
  where
    go : (bit_of r b ≡ true) ⊎ (bit_of r b ≡ false) → lower b r ≤ r
    go (inl e) = subst (λ c. cond c (flip b r) r ≤ r) (sym e) (omega (arith, flip_sub b r e))
    go (inr e) = subst (λ c. cond c (flip b r) r ≤ r) (sym e) (omega arith)

lower_flip : (b r : ℕ) → lower b (flip b r) ≡ lower b r
lower_flip b r = ap (λ c. cond c (flip b (flip b r)) (flip b r)) (flip_here b r) ∙ ap (λ x. cond (not (bit_of r b)) x (flip b r)) (flip_flip b r) ∙ go (bit_of r b)
  where
    go : (c : Bool) → cond (not c) r (flip b r) ≡ cond c (flip b r) r
    go true = refl
    go false = refl

lower_same : (b q : ℕ) → bit_of q b ≡ false → lower b q ≡ q
lower_same b q e = ap (λ c. cond c (flip b q) q) e

lower_is : (b r q : ℕ) → lower b r ≡ q → (r ≡ q → ⊥) → r ≡ flip b q
lower_is b r q h d = go (bool_cases (bit_of r b))
  where
    go : (bit_of r b ≡ true) ⊎ (bit_of r b ≡ false) → r ≡ flip b q
    go (inl e) = sym (flip_flip b r) ∙ ap (flip b) (ap (λ c. cond c (flip b r) r) (sym e) ∙ h)
    go (inr e) = absurd (d (ap (λ c. cond c (flip b r) r) (sym e) ∙ h))

-- ---- one pair

module _ (l b q : ℕ) (t : List ℕ) (hb : b < levels) (hl : l < blocks) (hq : q < width) (clear : bit_of q b ≡ false) (full : length t ≡ size) where
  partner_lt : flip b q < width
  partner_lt = flip_lt levels b q hb hq

  exchanged_first : (k : ℕ) → exchanged b (row t l) q k ≡ cond (bit_of k b && ltb k width) (row t l (flip b q) (flip b k)) (row t l q k)
  exchanged_first k = ap (λ c. cond ((c ⊕ bit_of k b) && ltb k width) (row t l (flip b q) (flip b k)) (row t l q k)) clear

  exchanged_second : (k : ℕ) → exchanged b (row t l) (flip b q) k ≡ cond (not (bit_of k b) && ltb k width) (row t l q (flip b k)) (row t l (flip b q) k)
  exchanged_second k =
      ap₂ (λ c x. cond ((c ⊕ bit_of k b) && ltb k width) (row t l x (flip b k)) (row t l (flip b q) k)) (flip_here b q ∙ ap not clear) (flip_flip b q)

  module _ (x y : ℕ) (hx : (k : ℕ) → bit_of x k ≡ exchanged b (row t l) q k) (hy : (k : ℕ) → bit_of y k ≡ exchanged b (row t l) (flip b q) k) where
    swap_row : (r k : ℕ) → Dec (r ≡ flip b q) → Dec (r ≡ q) → bit_of (at (stored (stored t l q x) l (flip b q) y) l r) k ≡ swapped b q (row t l) r k
    swap_row r k (yes e) d =
        ap (λ r. bit_of (at (stored (stored t l q x) l (flip b q) y) l r) k) e
        ∙ ap (λ v. bit_of v k) (stored_same (stored t l q x) l (flip b q) y (length_stored t l q x ∙ full) hl partner_lt) ∙ hy k
        ∙ sym (ap (λ c. cond c (exchanged b (row t l) (flip b q) k) (row t l (flip b q) k)) (eq-eqb (lower b (flip b q)) q (lower_flip b q ∙ lower_same b q clear)))
        ∙ ap (λ r. swapped b q (row t l) r k) (sym e)
    swap_row r k (no e) (yes d) =
        ap (λ v. bit_of v k) (stored_row (stored t l q x) l (flip b q) y r (λ z. e (sym z)))
        ∙ ap (λ r. bit_of (at (stored t l q x) l r) k) d ∙ ap (λ v. bit_of v k) (stored_same t l q x full hl hq) ∙ hx k
        ∙ sym (ap (λ c. cond c (exchanged b (row t l) q k) (row t l q k)) (eq-eqb (lower b q) q (lower_same b q clear)))
        ∙ ap (λ r. swapped b q (row t l) r k) (sym d)
    swap_row r k (no e) (no d) =
        ap (λ v. bit_of v k) (stored_row (stored t l q x) l (flip b q) y r (λ z. e (sym z)) ∙ stored_row t l q x r (λ z. d (sym z)))
        ∙ sym (ap (λ c. cond c (exchanged b (row t l) r k) (row t l r k)) (eqb_differ {m = lower b r} {n = q} (λ z. e (lower_is b r q z d))))

  -- The rows that the calls give, p and o before and x and y after, stored.
  pub swap_stored : (p o x y : ℕ) (s₁ s₂ : List ℕ) → p ≡ at t l q → o ≡ at t l (flip b q)
      → x ≡ bit_xor p (difference b p o * 2 ^ (2 ^ b)) → y ≡ bit_xor o (difference b p o) → s₁ ≡ stored t l q x → s₂ ≡ stored s₁ l (flip b q) y
      → OnlyBlock l t s₂ × HasRows l width (swapped b q (row t l)) s₂
  unfolding HasRows
  swap_stored p o x y s₁ s₂ ep eo ex ey e₁ e₂ = rw (e₂, e₁) (
    only_stored l (flip b q) y t (stored t l q x) partner_lt (only_stored l q x t t hq (only_start l t full)),
    λ r k h. swap_row x y
        (λ k. ap (λ v. bit_of v k) ex ∙ first_bit b p o hb k ∙ ap₂ (λ o p. cond (bit_of k b && ltb k width) (bit_of o (flip b k)) (bit_of p k)) eo ep ∙ sym (exchanged_first k))
        (λ k. ap (λ v. bit_of v k) ey ∙ second_bit b p o hb k ∙ ap₂ (λ o p. cond (not (bit_of k b) && ltb k width) (bit_of p (flip b k)) (bit_of o k)) eo ep ∙ sym (exchanged_second k))
        r k (ℕ_discrete r (flip b q)) (ℕ_discrete r q),
  )

-- ---- the pairs of a run, and all pairs

module _ (b : ℕ) (T : ℕ → ℕ → Bool) (r k : ℕ) where
  done : (o q : ℕ) → o ≤ lower b r → lower b r < q → staged b o q T r k ≡ exchanged b T r k
  done o q h g = ap₂ (λ c d. cond (c && d) (exchanged b T r k) (T r k)) (le-leb o (lower b r) h) (lt-ltb (lower b r) q g)

  earlier : (o q : ℕ) → lower b r < o → staged b o q T r k ≡ T r k
  earlier o q h = ap (λ c. cond (c && ltb (lower b r) q) (exchanged b T r k) (T r k)) (lt-leb o (lower b r) h)

  later : (o q : ℕ) → q ≤ lower b r → staged b o q T r k ≡ T r k
  later o q h = ap (λ c. cond (leb o (lower b r) && c) (exchanged b T r k) (T r k)) (le-ltb (lower b r) q h) ∙ ap (λ c. cond c (exchanged b T r k) (T r k)) (and-false (leb o (lower b r)))

  nothing : (o : ℕ) → staged b o o T r k ≡ T r k
  nothing o = go (dec_lt (lower b r) o)
    where
      go : Dec (lower b r < o) → staged b o o T r k ≡ T r k
      go (yes h) = earlier o o h
      go (no h) = later o o (omega arith)

  -- Pairs whose lower row is from q to e - 1 are all that tells the two apart.
  another : (o q e : ℕ) → q ≤ e → (q ≤ lower b r → lower b r < e → ⊥) → staged b o q T r k ≡ staged b o e T r k
  another o q e h none = go (dec_lt (lower b r) o) (dec_lt (lower b r) q) (dec_lt (lower b r) e)
    where
      go : Dec (lower b r < o) → Dec (lower b r < q) → Dec (lower b r < e) → staged b o q T r k ≡ staged b o e T r k
      go (yes x) y z = earlier o q x ∙ sym (earlier o e x)
      go (no x) (yes y) z = done o q (omega arith) y ∙ sym (done o e (omega arith) (omega arith))
      go (no x) (no y) (yes z) = absurd (none (omega arith) z)
      go (no x) (no y) (no z) = later o q (omega arith) ∙ sym (later o e (omega arith))

pub stage_start : (l b o n : ℕ) (t : List ℕ) → HasRows l n (staged b o o (row t l)) t
unfolding HasRows
stage_start l b o n t r k h = sym (nothing b (row t l) r k o)

-- The pair at hand exchanges its rows.
pub stage_step : (l b o q : ℕ) (T : ℕ → ℕ → Bool) (s s' : List ℕ) → b < levels → o ≤ q → HasRows l width (swapped b q (row s l)) s' → HasRows l width (staged b o q T) s
    → HasRows l width (staged b o (q + 1) T) s'
unfolding HasRows
stage_step l b o q T s s' hb ho X S r k h = X r k h ∙ go (ℕ_discrete (lower b r) q)
  where
    go : Dec (lower b r ≡ q) → swapped b q (row s l) r k ≡ staged b o (q + 1) T r k
    go (yes e) =
        ap (λ c. cond c (exchanged b (row s l) r k) (row s l r k)) (eq-eqb (lower b r) q e)
        ∙ ap₂ (λ x y. cond ((bit_of r b ⊕ bit_of k b) && ltb k width) x y)
        (S (flip b r) (flip b k) (flip_lt levels b r hb h) ∙ later b T (flip b r) (flip b k) o q (omega (arith, lower_flip b r)))
        (S r k h ∙ later b T r k o q (omega arith))
        ∙ sym (done b T r k o (q + 1) (omega arith) (omega arith))
    go (no e) =
        ap (λ c. cond c (exchanged b (row s l) r k) (row s l r k)) (eqb_differ {m = lower b r} {n = q} e)
        ∙ S r k h ∙ another b T r k o q (q + 1) (omega arith) (λ x y. e (omega arith))

-- A run from q to e - 1 exchanges its rows, and from e to f - 1 there is no lower row.
pub stage_run : (l b w q e f : ℕ) (T : ℕ → ℕ → Bool) (s s' : List ℕ) → w ≤ levels → b < w → q ≤ e → e ≤ f → ((x : ℕ) → e ≤ x → x < f → bit_of x b ≡ true)
    → HasRows l width (staged b q e (row s l)) s' → HasRows l (2 ^ w) (staged b 0 q T) s → HasRows l (2 ^ w) (staged b 0 f T) s'
unfolding HasRows
stage_run l b w q e f T s s' hw hb he hf set X S r k h =
    X r k (lt_of_lt_of_le h (pow_mono hw)) ∙ go (dec_lt (lower b r) q) (dec_lt (lower b r) e)
    ∙ another b T r k 0 e f hf (λ x y. false≢true (sym (lower_clear b r) ∙ set (lower b r) x y))
  where
    go : Dec (lower b r < q) → Dec (lower b r < e) → staged b q e (row s l) r k ≡ staged b 0 e T r k
    go (yes x) y = earlier b (row s l) r k q e x ∙ S r k h ∙ done b T r k 0 q zero-le x ∙ sym (done b T r k 0 e zero-le (omega arith))
    go (no x) (yes y) =
        done b (row s l) r k q e (omega arith) y
        ∙ ap₂ (λ x y. cond ((bit_of r b ⊕ bit_of k b) && ltb k width) x y)
        (S (flip b r) (flip b k) (flip_lt w b r hb h) ∙ later b T (flip b r) (flip b k) 0 q (omega (arith, lower_flip b r)))
        (S r k h ∙ later b T r k 0 q (omega arith))
        ∙ sym (done b T r k 0 e zero-le y)
    go (no x) (no y) = later b (row s l) r k q e (omega arith) ∙ S r k h ∙ later b T r k 0 q (omega arith) ∙ sym (later b T r k 0 e (omega arith))

pub stage_end : (l b n : ℕ) (T : ℕ → ℕ → Bool) (s : List ℕ) → HasRows l n (staged b 0 n T) s → HasRows l n (exchanged b T) s
unfolding HasRows
stage_end l b n T s S r k h = S r k h ∙ done b T r k 0 n zero-le (lt_of_le_of_lt (lower_le b r) h)

-- ---- where the runs stand

double : (b : ℕ) → 2 ^ suc b ≡ 2 ^ b + 2 ^ b
double b = omega (arith, pow-suc 2 b)

-- Run h starts at h * 2 ^ (b + 1). It has no bit b, and the rows after it have.
pub run_clear : (b h i : ℕ) → i < 2 ^ b → bit_of (h * 2 ^ suc b + i) b ≡ false
run_clear b h i g =
    ap (λ x. bit_of x b) (sym (xor_shifted h (suc b) i (omega (arith, double b)))) ∙ bit_xor_lem b (h * 2 ^ suc b) i
    ∙ ap₂ ◌⊕◌ (bit_shl_low h (suc b) b (omega arith)) (bit_high b g b (omega arith))

pub run_set : (b h x : ℕ) → h * 2 ^ suc b + 2 ^ b ≤ x → x < h * 2 ^ suc b + 2 ^ b + 2 ^ b → bit_of x b ≡ true
run_set b h x g f =
    let e : x ≡ 2 ^ b + (h * 2 ^ suc b + (x - (h * 2 ^ suc b + 2 ^ b))) = omega arith in
    let c = run_clear b h (x - (h * 2 ^ suc b + 2 ^ b)) (omega arith) in
    ap (λ y. bit_of y b) (e ∙ sym (flip_add b (h * 2 ^ suc b + (x - (h * 2 ^ suc b + 2 ^ b))) c)) ∙ flip_here b (h * 2 ^ suc b + (x - (h * 2 ^ suc b + 2 ^ b))) ∙ ap not c

-- The next run starts after these.
pub run_next : (b h : ℕ) → h * 2 ^ suc b + 2 ^ b + 2 ^ b ≡ suc h * 2 ^ suc b
run_next b h = omega (arith, suc-mul h (2 ^ suc b), double b)

-- There is room for a run that starts below 2 ^ w.
pub run_room : (b w h : ℕ) → b < w → h * 2 ^ suc b < 2 ^ w → h * 2 ^ suc b + 2 ^ b + 2 ^ b ≤ 2 ^ w
run_room b w h g f =
    let P = 2 ^ suc b in
    let e : 2 ^ w ≡ 2 ^ (w - suc b) * P = ap (λ x. 2 ^ x) (omega arith) ∙ pow-add 2 (w - suc b) (suc b) in
    let few : h < 2 ^ (w - suc b) = lt_of_mul-lt-mul_right P (subst (λ x. h * P < x) e f) in
    let room : suc h * P ≤ 2 ^ w = subst (λ x. suc h * P ≤ x) (sym e) (mul-le-mul_right P few) in
    subst (λ x. x ≤ 2 ^ w) (sym (run_next b h)) room
