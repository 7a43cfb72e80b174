-- Rows written into a line, one after another.
use Rattle.std.proofs.Common.{◌≡◌, ℕ, zero, suc, ◌+◌, ◌-◌, ◌<◌, ◌≤◌, List, [], ◌∷◌, length, get_or, set, refl, ap, subst, length-set, ◌∙◌, arith, add-one}
use native.Mathlib.Decide.{dec_lt}
use lib.Seq.{get_or-set_same, get_or-set_other}
use Rattle.automata.proofs.Below.{up_to}
use Rattle.rows.specs.declared.Row.{Row}
use Rattle.rows.specs.Row.{mask_at}
use Rattle.kernels.specs.Products.{Put}

-- One more row.
pub put_step : (l k : ℕ) (x : List Row) (s t : List ℕ) → l + k < length t → Put l k x s t → Put l (k + 1) x s (set t (l + k) (mask_at x k))
put_step l k x s t h p = record {
  rows = λ j g. up_to {Q = λ j. get_or (set t (l + k) (mask_at x k)) (l + j) 0 ≡ mask_at x j} k
      (λ i f. get_or-set_other t (l + k) (l + i) (mask_at x k) 0 (omega arith) ∙ p.rows i f)
      (get_or-set_same t (l + k) (mask_at x k) 0 h)
      j (rw add-one at g);
  lower = λ i g. get_or-set_other t (l + k) i (mask_at x k) 0 (omega arith) ∙ p.lower i g;
  size = length-set t (l + k) (mask_at x k) ∙ p.size;
}

-- What stands at the place i of the rows written, where row k is f of the block named for k, and these go up by one from l on.
pub put_blocks : (f : ℕ → ℕ) (l n : ℕ) (bs : List ℕ) {x : List Row} {s t : List ℕ} → ((k : ℕ) → k < n → get_or bs k 0 ≡ l + k)
    → ((k : ℕ) → k < n → mask_at x k ≡ f (get_or bs k 0)) → Put l n x s t → (i : ℕ) → l ≤ i → i < l + n → get_or t i 0 ≡ f i
put_blocks f l n bs {t = t} named made p i h g =
    let k : i - l < n = omega arith in
    subst (λ j. get_or t j 0 ≡ f j) (omega arith) (p.rows (i - l) k ∙ made (i - l) k ∙ ap f (named (i - l) k))

-- The numbers of the first blocks, in order.
first_two : (k : ℕ) → k < 2 → get_or (0 ∷ 1 ∷ []) k 0 ≡ 0 + k
first_two zero h = refl
first_two (suc zero) h = refl
first_two (suc (suc k)) h = absurd (omega arith)

first_four : (k : ℕ) → k < 4 → get_or (0 ∷ 1 ∷ 2 ∷ 3 ∷ []) k 0 ≡ 0 + k
first_four zero h = refl
first_four (suc zero) h = refl
first_four (suc (suc zero)) h = refl
first_four (suc (suc (suc zero))) h = refl
first_four (suc (suc (suc (suc k)))) h = absurd (omega arith)

next_four : (k : ℕ) → k < 4 → get_or (4 ∷ 5 ∷ 6 ∷ 7 ∷ []) k 0 ≡ 4 + k
next_four zero h = refl
next_four (suc zero) h = refl
next_four (suc (suc zero)) h = refl
next_four (suc (suc (suc zero))) h = refl
next_four (suc (suc (suc (suc k)))) h = absurd (omega arith)

-- The first two, the first four, and the four after these.
pub put_two : (f : ℕ → ℕ) {x : List Row} {s t : List ℕ} → ((k : ℕ) → k < 2 → mask_at x k ≡ f (get_or (0 ∷ 1 ∷ []) k 0)) → Put 0 2 x s t → (i : ℕ) → i < 2 → get_or t i 0 ≡ f i
put_two f made p i h = put_blocks f 0 2 (0 ∷ 1 ∷ []) first_two made p i (omega arith) (omega arith)

pub put_four : (f : ℕ → ℕ) {x : List Row} {s t : List ℕ} → ((k : ℕ) → k < 4 → mask_at x k ≡ f (get_or (0 ∷ 1 ∷ 2 ∷ 3 ∷ []) k 0)) → Put 0 4 x s t
    → (i : ℕ) → i < 4 → get_or t i 0 ≡ f i
put_four f made p i h = put_blocks f 0 4 (0 ∷ 1 ∷ 2 ∷ 3 ∷ []) first_four made p i (omega arith) (omega arith)

pub put_eight : (f : ℕ → ℕ) {x : List Row} {s t : List ℕ} → ((i : ℕ) → i < 4 → get_or s i 0 ≡ f i) → ((k : ℕ) → k < 4 → mask_at x k ≡ f (get_or (4 ∷ 5 ∷ 6 ∷ 7 ∷ []) k 0))
    → Put 4 4 x s t → (i : ℕ) → i < 8 → get_or t i 0 ≡ f i
put_eight f {s = s} {t = t} old made p i h = go (dec_lt i 4)
  where
    go : Dec (i < 4) → get_or t i 0 ≡ f i
    go (yes g) = p.lower i g ∙ old i g
    go (no g) = put_blocks f 4 4 (4 ∷ 5 ∷ 6 ∷ 7 ∷ []) next_four made p i (omega arith) (omega arith)
