-- Lines of products: one more letter; and the products of two records side by side, from those of each.
use mathlib.Core.Path.{◌≡◌, sym, ap₂, subst, ◌∙◌}
use mathlib.Core.List.{List}
use Prim.Native.Nat.{ℕ, ◌+◌, ◌-◌, ◌*◌, ◌/◌, ◌^◌, ◌≤◌, ◌<◌}
use native.Mathlib.Numerals.{add-one}
use native.Mathlib.Decide.{dec_lt}
use native.Mathlib.Omega.{arith}
use lib.Bits.{bit_xor}
use lib.ListN.{length, get_or, set, length-set}
use lib.Seq.{get_or-set_same, get_or-set_other}
use Rattle.automata.proofs.Below.{up_to}
use Rattle.rows.specs.declared.Row.{Row}
use Rattle.rows.specs.Row.{mask, mask_at}
use Rattle.rows.specs.Table.{blocks}
use Rattle.rows.specs.Product.{product}
use Rattle.rows.specs.Beside.{beside}
use Rattle.kernels.specs.Products.{Put}
use Rattle.rows.proofs.MaskLaws.{mask_at_same, mask_at_other}
use Rattle.rows.proofs.BesideLaws.{product_beside}
use Rattle.record.specs.Record.{states_of, letters_of, row_at, WellFormed}
use Rattle.products.specs.Lines.{Upto, Letters, Both}
use Rattle.products.proofs.PairLaws.{product_below}

-- ---- letter by letter

-- The products of n letters from l on, put at their places.
pub upto_put : {l n : ℕ} {x : List Row} {s s' : List ℕ} (M : ℕ → ℕ → ℕ) (m z : ℕ) → ((k : ℕ) → k < n → mask_at x k ≡ product m z (M (l + k))) → Put l n x s s' → Upto l M m z s → Upto (l + n) M m z s'
upto_put {l} {n} {s' = s'} M m z made p u = (p.size ∙ u.0, λ i h. go i h (dec_lt i l))
  where
    go : (i : ℕ) → i < l + n → Dec (i < l) → get_or s' i 0 ≡ product m z (M i)
    go i h (yes g) = p.lower i g ∙ u.1 i g
    go i h (no g) = subst (λ j. get_or s' j 0 ≡ product m z (M j)) (omega arith) (p.rows (i - l) (omega arith) ∙ made (i - l) (omega arith))

-- The product of letter l, put at its place.
pub upto_step : (l k : ℕ) (M : ℕ → ℕ → ℕ) (n x : ℕ) (s : List ℕ) {s' : List ℕ} {v : ℕ} → k ≡ l + 1 → l < blocks → v ≡ product n x (M l) → s' ≡ set s l v → Upto l M n x s → Upto k M n x s'
upto_step l k M n x s {v = v} c h e g u = rw (g, c, add-one) (
  length-set s l v ∙ u.0,
  up_to {Q = λ i. get_or (set s l v) i 0 ≡ product n x (M i)} l
      (λ i z. get_or-set_other s l i v 0 (omega arith) ∙ u.1 i z)
      (get_or-set_same s l v 0 (omega (arith, u.0)) ∙ e),
)

-- ---- two lines merged

-- The entries below l are those of s₀ and t side by side, the others are those of s₀.
pub record Merged (l n : ℕ) (s₀ t s : List ℕ) : Type 0 where
  pub size : length s ≡ blocks
  pub done : (k : ℕ) → k < l → get_or s k 0 ≡ bit_xor (get_or s₀ k 0) (get_or t k 0 * 2 ^ n)
  pub rest : (k : ℕ) → l ≤ k → get_or s k 0 ≡ get_or s₀ k 0

pub merged_step : (l n : ℕ) (s₀ t s : List ℕ) {s' : List ℕ} {v a b c : ℕ} → l < blocks → a ≡ get_or s l 0 → b ≡ get_or t l 0 → c ≡ b * 2 ^ n → v ≡ bit_xor a c → s' ≡ set s l v → Merged l n s₀ t s → Merged (l + 1) n s₀ t s'
merged_step l n s₀ t s {v = v} h ea eb ec ev e m = rw (e, add-one) (record {
  size = length-set s l v ∙ m.size;
  done = up_to l
      (λ k z. get_or-set_other s l k v 0 (omega arith) ∙ m.done k z)
      (get_or-set_same s l v 0 (omega (arith, m.size)) ∙ ev ∙ ap₂ bit_xor (ea ∙ m.rest l (omega arith)) (ec ∙ rw eb));
  rest = λ k z. get_or-set_other s l k v 0 (omega arith) ∙ m.rest k (omega arith);
})

-- The same for rows: the first k of y are those of y₀ and z side by side.
pub record Joined (k n : ℕ) (y₀ z y : List Row) : Type 0 where
  pub size : length y ≡ length y₀
  pub done : (j : ℕ) → j < k → mask_at y j ≡ bit_xor (mask_at y₀ j) (mask_at z j * 2 ^ n)
  pub rest : (j : ℕ) → k ≤ j → mask_at y j ≡ mask_at y₀ j

pub joined_step : (k n : ℕ) (y₀ z y : List Row) {c : ℕ} (v : Row) → k < length y₀ → c ≡ mask_at z k * 2 ^ n → mask v ≡ bit_xor (mask_at y k) c → Joined k n y₀ z y → Joined (k + 1) n y₀ z (set y k v)
joined_step k n y₀ z y v h ec ev m = rw add-one (record {
  size = length-set y k v ∙ m.size;
  done = up_to k
      (λ j g. mask_at_other y k j v (omega arith) ∙ m.done j g)
      (mask_at_same y k v (omega (arith, m.size)) ∙ ev ∙ ap₂ bit_xor (m.rest k (omega arith)) ec);
  rest = λ j g. mask_at_other y k j v (omega arith) ∙ m.rest j (omega arith);
})

-- ---- two records

pub entry_lt : (bs : List ℕ) (x : ℕ) (s : List ℕ) → WellFormed bs → Letters bs x s → (l : ℕ) → l < letters_of bs → get_or s l 0 < 2 ^ states_of bs
entry_lt bs x s good u l h = product_below bs good l x (get_or s l 0) h (u.1 l h)

-- The products of both parts of a row, merged.
pub both_merged : (bs cs : List ℕ) (x n l : ℕ) {h y : ℕ} (s₀ t s : List ℕ) → letters_of cs ≡ letters_of bs → n ≡ states_of bs → l ≡ letters_of bs
    → h ≡ x / 2 ^ n → y ≡ bit_xor x (x / 2 ^ n * 2 ^ n) → Letters bs y s₀ → Letters cs h t → Merged l n s₀ t s → Both bs cs x s
both_merged bs cs x n l {h} {y} s₀ t s same en el eh ey u w m = (m.size, side)
  where
    high : h ≡ x / 2 ^ states_of bs
    high = eh ∙ rw en

    low : y ≡ bit_xor x (x / 2 ^ states_of bs * 2 ^ states_of bs)
    low = ey ∙ rw en

    side : (k : ℕ) → k < letters_of bs → get_or s k 0 ≡ product (states_of bs + states_of cs) x (beside (row_at bs) (row_at cs) (states_of bs) k)
    side k z =
        m.done k (omega arith) ∙ (rw (u.1 k z, w.1 k (omega arith), low, high, en))
        ∙ sym (product_beside (states_of bs) (states_of cs) x (row_at bs) (row_at cs) k)
