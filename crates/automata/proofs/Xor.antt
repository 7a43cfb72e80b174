-- Laws of xor and of the xor of a finite family.
use mathlib.Core.Path.{◌≡◌, refl, sym, ap, ap₂, ◌∙◌}
use mathlib.Core.Bool.{Bool, true, false, not, ◌&&◌, cond, and-false, and_comm, and_assoc}
use mathlib.Core.Logic.{◌⊎◌, inl, inr, ◌≢◌}
use Prim.Native.Nat.{ℕ, zero, suc, ◌+◌, ◌<◌}
use native.Mathlib.Nat.{add-zero, add-suc, not-suc-le-zero}
use native.Mathlib.Omega.{arith}
use lib.Dec.{T, eqb, eqb_refl, eqb→eq}
use native.Mathlib.Decide.{ℕ_discrete}
use Rattle.automata.specs.Xor.{◌⊕◌, xor_below}
use Rattle.automata.specs.Automaton.{sum_below, odd}

pub xor_false : (b : Bool) → b ⊕ false ≡ b
xor_false true = refl
xor_false false = refl

pub xor_self : (b : Bool) → b ⊕ b ≡ false
xor_self true = refl
xor_self false = refl

pub not_not : (b : Bool) → not (not b) ≡ b
not_not true = refl
not_not false = refl

pub xor_not : (a b : Bool) → not a ⊕ b ≡ not (a ⊕ b)
xor_not true b = sym (not_not b)
xor_not false b = refl

pub xor_not_right : (a b : Bool) → a ⊕ not b ≡ not (a ⊕ b)
xor_not_right true b = refl
xor_not_right false b = refl

pub xor_comm : (a b : Bool) → a ⊕ b ≡ b ⊕ a
xor_comm true true = refl
xor_comm true false = refl
xor_comm false true = refl
xor_comm false false = refl

pub xor_assoc : (a b c : Bool) → (a ⊕ b) ⊕ c ≡ a ⊕ (b ⊕ c)
xor_assoc true b c = xor_not b c
xor_assoc false b c = refl

xor_left_comm : (a b c : Bool) → a ⊕ (b ⊕ c) ≡ b ⊕ (a ⊕ c)
xor_left_comm a b c = sym (xor_assoc a b c) ∙ ap (λ x. x ⊕ c) (xor_comm a b) ∙ xor_assoc b a c

-- Two sums of two, taken crosswise.
xor_cross : (a b c d : Bool) → (a ⊕ b) ⊕ (c ⊕ d) ≡ (a ⊕ c) ⊕ (b ⊕ d)
xor_cross a b c d = simp (xor_assoc, xor_left_comm b c d)

pub xor_zero : {a b : Bool} → a ⊕ b ≡ false → a ≡ b
xor_zero {a = true} {b = true} e = refl
xor_zero {a = true} {b = false} e = e
xor_zero {a = false} {b = b} e = sym e

pub and_xor : (a b c : Bool) → a && (b ⊕ c) ≡ (a && b) ⊕ (a && c)
and_xor true b c = refl
and_xor false b c = refl

pub xor_and : (a b c : Bool) → (a ⊕ b) && c ≡ (a && c) ⊕ (b && c)
xor_and true true true = refl
xor_and true true false = refl
xor_and true false c = sym (xor_false c)
xor_and false b c = refl

pub bool_cases : (b : Bool) → (b ≡ true) ⊎ (b ≡ false)
bool_cases true = inl refl
bool_cases false = inr refl

-- ---- the xor of a family

pub xor_cong : (k : ℕ) {f g : ℕ → Bool} → ((i : ℕ) → i < k → f i ≡ g i) → xor_below k f ≡ xor_below k g
xor_cong zero h = refl
xor_cong (suc k) {f} {g} h = rw (xor_cong k {f = f} {g = g} (λ i p. h i (omega arith)), h k (omega arith))

pub xor_none : (k : ℕ) {f : ℕ → Bool} → ((i : ℕ) → i < k → f i ≡ false) → xor_below k f ≡ false
xor_none zero h = refl
xor_none (suc k) {f} h = rw (xor_none k {f = f} (λ i p. h i (omega arith)), h k (omega arith))

pub xor_split : (k : ℕ) (f g : ℕ → Bool) → xor_below k (λ i. f i ⊕ g i) ≡ xor_below k f ⊕ xor_below k g
xor_split zero f g = refl
xor_split (suc k) f g = ap (λ x. x ⊕ (f k ⊕ g k)) (xor_split k f g) ∙ xor_cross (xor_below k f) (xor_below k g) (f k) (g k)

pub xor_scale : (k : ℕ) (c : Bool) (f : ℕ → Bool) → xor_below k (λ i. c && f i) ≡ c && xor_below k f
xor_scale k true f = refl
xor_scale k false f = xor_none k (λ i p. refl)

pub xor_scale_right : (k : ℕ) (f : ℕ → Bool) (c : Bool) → xor_below k (λ i. f i && c) ≡ xor_below k f && c
xor_scale_right k f c = xor_cong k (λ i p. and_comm (f i) c) ∙ xor_scale k c f ∙ and_comm c (xor_below k f)

pub xor_swap : (k m : ℕ) (f : ℕ → ℕ → Bool) → xor_below k (λ i. xor_below m (f i)) ≡ xor_below m (λ j. xor_below k (λ i. f i j))
xor_swap zero m f = sym (xor_none m (λ i p. refl))
xor_swap (suc k) m f = ap (λ x. x ⊕ xor_below m (f k)) (xor_swap k m f) ∙ sym (xor_split m (λ j. xor_below k (λ i. f i j)) (f k))

pub xor_append : (k m : ℕ) (f : ℕ → Bool) → xor_below (k + m) f ≡ xor_below k f ⊕ xor_below m (λ i. f (k + i))
xor_append k zero f = rw add-zero (sym (xor_false (xor_below k f)))
xor_append k (suc m) f = rw add-suc (ap (λ x. x ⊕ f (k + m)) (xor_append k m f) ∙ xor_assoc (xor_below k f) _ _)

-- ---- parity

pub odd_add : (m n : ℕ) → odd (m + n) ≡ odd m ⊕ odd n
odd_add m zero = rw add-zero (sym (xor_false (odd m)))
odd_add m (suc n) = rw add-suc (ap not (odd_add m n) ∙ sym (xor_not_right (odd m) (odd n)))

pub odd_sum : (k : ℕ) (f : ℕ → ℕ) → odd (sum_below k f) ≡ xor_below k (λ i. odd (f i))
odd_sum zero f = refl
odd_sum (suc k) f = odd_add (sum_below k f) (f k) ∙ ap (λ x. x ⊕ odd (f k)) (odd_sum k f)

pub odd_when : (b : Bool) (n : ℕ) → odd (cond b n 0) ≡ b && odd n
odd_when true n = refl
odd_when false n = refl

-- ---- one index, told apart by eqb

pub eqb_same : (n : ℕ) → eqb n n ≡ true
eqb_same n = T_true (eqb n n) (eqb_refl n)
  where
    T_true : (b : Bool) → T b → b ≡ true
    T_true true t = refl
    T_true false t = absurd t

pub eqb_differ : {m n : ℕ} → m ≢ n → eqb m n ≡ false
eqb_differ {m} {n} h = F_false (eqb m n) (λ t. h (eqb→eq m n t))
  where
    F_false : (b : Bool) → (T b → ⊥) → b ≡ false
    F_false true t = absurd (t tt)
    F_false false t = refl

pub eqb_sym : (m n : ℕ) → eqb m n ≡ eqb n m
eqb_sym m n = go (ℕ_discrete m n)
  where
    go : Dec (m ≡ n) → eqb m n ≡ eqb n m
    go (yes e) = ap₂ eqb e (sym e)
    go (no e) = eqb_differ e ∙ sym (eqb_differ (λ f. e (sym f)))

-- The one member that `eqb i p` keeps.
pub xor_pick : (k p : ℕ) → p < k → (f : ℕ → Bool) → xor_below k (λ i. eqb i p && f i) ≡ f p
xor_pick zero p h f = absurd (not-suc-le-zero h)
xor_pick (suc k) p h f = go (ℕ_discrete k p) (λ q. xor_pick k p q f)
  where
    go : Dec (k ≡ p) → (p < k → xor_below k (λ i. eqb i p && f i) ≡ f p) → xor_below k (λ i. eqb i p && f i) ⊕ (eqb k p && f k) ≡ f p
    go (yes e) ih = rw (xor_none k {f = λ i. eqb i p && f i} (λ i q. rw (eqb_differ {m = i} {n = p} (omega arith))), e, eqb_same p)
    go (no n) ih = rw (ih (omega (arith, n)), eqb_differ n) (xor_false (f p))

pub and_swap : (a b c : Bool) → a && (b && c) ≡ b && (a && c)
and_swap true b c = refl
and_swap false b c = sym (and-false b)

-- ---- coefficients

pub xor_coef : (k : ℕ) (c e f : ℕ → Bool) → xor_below k (λ i. (c i ⊕ e i) && f i) ≡ xor_below k (λ i. c i && f i) ⊕ xor_below k (λ i. e i && f i)
xor_coef k c e f = xor_cong k (λ i p. xor_and (c i) (e i) (f i)) ∙ xor_split k (λ i. c i && f i) (λ i. e i && f i)

pub xor_family : (k : ℕ) (c f g : ℕ → Bool) → xor_below k (λ i. c i && (f i ⊕ g i)) ≡ xor_below k (λ i. c i && f i) ⊕ xor_below k (λ i. c i && g i)
xor_family k c f g = xor_cong k (λ i p. and_xor (c i) (f i) (g i)) ∙ xor_split k (λ i. c i && f i) (λ i. c i && g i)

pub xor_pick_coef : (k p : ℕ) → p < k → (b : Bool) (f : ℕ → Bool) → xor_below k (λ i. (eqb i p && b) && f i) ≡ b && f p
xor_pick_coef k p h b f = xor_cong k (λ i q. and_assoc (eqb i p) b (f i)) ∙ xor_pick k p h (λ i. b && f i)

pub xor_pick_family : (k p : ℕ) → p < k → (c : ℕ → Bool) (b : Bool) → xor_below k (λ i. c i && (eqb i p && b)) ≡ c p && b
xor_pick_family k p h c b = xor_cong k (λ i q. and_swap (c i) (eqb i p) b) ∙ xor_pick k p h (λ i. c i && b)

-- A row times a matrix times a column, bracketed either way.
pub xor_matrix : (n m : ℕ) (r : ℕ → Bool) (s : ℕ → ℕ → Bool) (g : ℕ → Bool)
    → xor_below n (λ i. r i && xor_below m (λ j. s i j && g j)) ≡ xor_below m (λ j. xor_below n (λ i. r i && s i j) && g j)
xor_matrix n m r s g =
    xor_cong n (λ i p. sym (xor_scale m (r i) (λ j. s i j && g j)))
    ∙ xor_swap n m (λ i j. r i && (s i j && g j))
    ∙ xor_cong m (λ j p. xor_cong n (λ i q. sym (and_assoc (r i) (s i j) (g j))) ∙ xor_scale_right n (λ i. r i && s i j) (g j))
