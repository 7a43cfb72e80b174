-- Laws of membership and of counting: the number is one only, and how counts are put together.
use mathlib.Core.Path.{◌≡◌, refl, sym, ap, ap₂, subst, ◌∙◌}
use mathlib.Core.Bool.{Bool, true, false, cond, false≢true}
use mathlib.Core.Logic.{◌⊎◌, inl, inr}
use mathlib.Core.List.{List, [], ◌∷◌, ◌++◌, map}
use Prim.Native.Nat.{ℕ, zero, suc, ◌+◌, ◌<◌, ◌≤◌}
use native.Mathlib.Nat.{le_antisymm, not-suc-le-zero}
use native.Mathlib.Decide.{ℕ_discrete}
use native.Mathlib.Omega.{arith}
use lib.ListN.{length, length-append}
use Rattle.automata.specs.Automaton.{sum_below}
use Rattle.automata.specs.Count.{Member, Distinct, Count}

-- ---- membership

pub mem_left : {X : Type 0} (x : X) (xs ys : List X) → Member x xs → Member x (xs ++ ys)
mem_left x [] ys h = absurd h
mem_left x (y ∷ xs) ys (inl e) = inl e
mem_left x (y ∷ xs) ys (inr h) = inr (mem_left x xs ys h)

pub mem_right : {X : Type 0} (x : X) (xs ys : List X) → Member x ys → Member x (xs ++ ys)
mem_right x [] ys h = h
mem_right x (y ∷ xs) ys h = inr (mem_right x xs ys h)

pub mem_cases : {X : Type 0} (x : X) (xs ys : List X) → Member x (xs ++ ys) → Member x xs ⊎ Member x ys
mem_cases x [] ys h = inr h
mem_cases x (y ∷ xs) ys (inl e) = inl (inl e)
mem_cases x (y ∷ xs) ys (inr h) = go (mem_cases x xs ys h)
  where
    go : Member x xs ⊎ Member x ys → Member x (y ∷ xs) ⊎ Member x ys
    go (inl m) = inl (inr m)
    go (inr m) = inr m

distinct_append : {X : Type 0} (xs ys : List X) → Distinct xs → Distinct ys → ((x : X) → Member x xs → Member x ys → ⊥) → Distinct (xs ++ ys)
distinct_append [] ys d e apart = e
distinct_append (x ∷ xs) ys d e apart = (λ m. go (mem_cases x xs ys m), distinct_append xs ys d.1 e (λ z m n. apart z (inr m) n))
  where
    go : Member x xs ⊎ Member x ys → ⊥
    go (inl m) = d.0 m
    go (inr n) = apart x (inl refl) n

pub mem_map : {X Y : Type 0} (f : X → Y) (x : X) (xs : List X) → Member x xs → Member (f x) (map f xs)
mem_map f x [] m = absurd m
mem_map f x (y ∷ xs) (inl e) = inl (ap f e)
mem_map f x (y ∷ xs) (inr m) = inr (mem_map f x xs m)

pub mem_map_cases : {X Y : Type 0} (f : X → Y) (y : Y) (xs : List X) → Member y (map f xs) → (x : X) × (y ≡ f x) × Member x xs
mem_map_cases f y [] m = absurd m
mem_map_cases f y (x ∷ xs) (inl e) = (x, e, inl refl)
mem_map_cases f y (x ∷ xs) (inr m) = let t = mem_map_cases f y xs m in (t.0, t.1, inr t.2)

length_map : {X Y : Type 0} (f : X → Y) (xs : List X) → length (map f xs) ≡ length xs
length_map f [] = refl
length_map f (x ∷ xs) = ap suc (length_map f xs)

distinct_map : {X Y : Type 0} (f : X → Y) → ((x z : X) → f x ≡ f z → x ≡ z) → (xs : List X) → Distinct xs → Distinct (map f xs)
distinct_map f inj [] d = tt
distinct_map f inj (x ∷ xs) d = (λ m. let t = mem_map_cases f (f x) xs m in d.0 (subst (λ z. Member z xs) (sym (inj x t.0 t.1)) t.2), distinct_map f inj xs d.1)

-- ---- the number is one only

-- A list without one of its members.
removed : {X : Type 0} (x : X) (ys : List X) → Member x ys → (zs : List X) × (length ys ≡ suc (length zs)) × ((z : X) → Member z ys → (z ≡ x) ⊎ Member z zs)
removed x [] m = absurd m
removed x (y ∷ ys) (inl e) = (ys, refl, λ z n. go z n)
  where
    go : (z : _) → Member z (y ∷ ys) → (z ≡ x) ⊎ Member z ys
    go z (inl f) = inl (f ∙ sym e)
    go z (inr n) = inr n
removed x (y ∷ ys) (inr m) = let t = removed x ys m in (y ∷ t.0, ap suc t.1, λ z n. go t.0 t.2 z n)
  where
    go : (zs : List _) → ((z : _) → Member z ys → (z ≡ x) ⊎ Member z zs) → (z : _) → Member z (y ∷ ys) → (z ≡ x) ⊎ Member z (y ∷ zs)
    go zs h z (inl f) = inr (inl f)
    go zs h z (inr n) = next (h z n)
      where
        next : (z ≡ x) ⊎ Member z zs → (z ≡ x) ⊎ Member z (y ∷ zs)
        next (inl f) = inl f
        next (inr k) = inr (inr k)

-- A list with nothing twice is no longer than a list that has its members.
distinct_length : {X : Type 0} (xs ys : List X) → Distinct xs → ((x : X) → Member x xs → Member x ys) → length xs ≤ length ys
distinct_length [] ys d h = omega arith
distinct_length (x ∷ xs) ys d h =
    let t = removed x ys (h x (inl refl)) in
    omega (arith, t.1, distinct_length xs t.0 d.1 (λ z m. other t.0 z m (t.2 z (h z (inr m)))))
  where
    other : (zs : List _) (z : _) → Member z xs → (z ≡ x) ⊎ Member z zs → Member z zs
    other zs z m (inl e) = absurd (d.0 (subst (λ y. Member y xs) e m))
    other zs z m (inr n) = n

-- Two counts of the same things are the same number.
pub count_unique : {X : Type 0} {P : X → Type 0} (m n : ℕ) → Count P m → Count P n → m ≡ n
count_unique m n c e =
    sym c.size
    ∙ le_antisymm (distinct_length c.each e.each c.distinct (λ x h. e.complete x (c.sound x h))) (distinct_length e.each c.each e.distinct (λ x h. c.complete x (e.sound x h)))
    ∙ e.size

-- ---- counts put together

-- The same things under another description.
pub count_same : {X : Type 0} {P Q : X → Type 0} {n : ℕ} → ((x : X) → P x → Q x) → ((x : X) → Q x → P x) → Count P n → Count Q n
count_same f g c = record { each = c.each; size = c.size; distinct = c.distinct; sound = λ x m. f x (c.sound x m); complete = λ x q. c.complete x (g x q) }

-- One thing.
pub count_one : {X : Type 0} {P : X → Type 0} (x : X) → P x → ((z : X) → P z → z ≡ x) → Count P 1
count_one {P = P} x h only = record { each = x ∷ []; size = refl; distinct = (λ m. m, tt); sound = λ z m. go z m; complete = λ z p. inl (only z p) }
  where
    go : (z : _) → Member z (x ∷ []) → P z
    go z (inl e) = subst P (sym e) h
    go z (inr m) = absurd m

-- Things where b holds, and none where it does not.
pub count_when : {X : Type 0} {P : X → Type 0} {n : ℕ} (b : Bool) → Count P n → Count (λ x. (b ≡ true) × P x) (cond b n 0)
count_when true c = count_same (λ x p. (refl, p)) (λ x p. p.1) c
count_when false c = record { each = []; size = refl; distinct = tt; sound = λ x m. absurd m; complete = λ x p. absurd (false≢true p.0) }

-- Things of two kinds.
pub count_both : {X : Type 0} {P Q R : X → Type 0} {m n : ℕ} → ((x : X) → P x → R x) → ((x : X) → Q x → R x) → ((x : X) → R x → P x ⊎ Q x) → ((x : X) → P x → Q x → ⊥)
    → Count P m → Count Q n → Count R (m + n)
count_both {P = P} {Q = Q} {R = R} f g cases apart c e = record {
  each = c.each ++ e.each;
  size = length-append c.each e.each ∙ ap₂ ◌+◌ c.size e.size;
  distinct = distinct_append c.each e.each c.distinct e.distinct (λ x m n. apart x (c.sound x m) (e.sound x n));
  sound = λ x m. from x (mem_cases x c.each e.each m);
  complete = λ x r. into x (cases x r);
}
  where
    from : (x : _) → Member x c.each ⊎ Member x e.each → R x
    from x (inl m) = f x (c.sound x m)
    from x (inr m) = g x (e.sound x m)

    into : (x : _) → P x ⊎ Q x → Member x (c.each ++ e.each)
    into x (inl p) = mem_left x c.each e.each (c.complete x p)
    into x (inr q) = mem_right x c.each e.each (e.complete x q)

-- The images under a function that takes no two to one.
pub count_image : {X Y : Type 0} {P : X → Type 0} {Q : Y → Type 0} {n : ℕ} (f : X → Y) → ((x z : X) → f x ≡ f z → x ≡ z) → ((x : X) → P x → Q (f x)) → ((y : Y) → Q y → (x : X) × (y ≡ f x) × P x)
    → Count P n → Count Q n
count_image {Q = Q} f inj into from c = record {
  each = map f c.each;
  size = length_map f c.each ∙ c.size;
  distinct = distinct_map f inj c.each c.distinct;
  sound = λ y m. let t = mem_map_cases f y c.each m in subst Q (sym t.1) (into t.0 (c.sound t.0 t.2));
  complete = λ y q. let t = from y q in subst (λ z. Member z (map f c.each)) (sym t.1) (mem_map f t.0 c.each (c.complete t.0 t.2));
}

-- Things of k kinds.
pub count_below : {X : Type 0} (k : ℕ) (P : ℕ → X → Type 0) (n : ℕ → ℕ) → ((i j : ℕ) (x : X) → P i x → P j x → i ≡ j) → ((i : ℕ) → Count (P i) (n i)) → Count (λ x. (i : ℕ) × (i < k) × P i x) (sum_below k n)
count_below zero P n one c = record { each = []; size = refl; distinct = tt; sound = λ x m. absurd m; complete = λ x p. absurd (not-suc-le-zero p.1) }
count_below (suc k) P n one c =
    count_both (λ x p. (p.0, omega (arith, p.1), p.2)) (λ x p. (k, omega arith, p)) (λ x p. kind x p (ℕ_discrete p.0 k)) (λ x p q. omega (arith, p.1, one p.0 k x p.2 q))
    (count_below k P n one c) (c k)
  where
    kind : (x : _) (p : (i : ℕ) × (i < suc k) × P i x) → Dec (p.0 ≡ k) → ((i : ℕ) × (i < k) × P i x) ⊎ P k x
    kind x p (yes e) = inr (subst (λ i. P i x) e p.2)
    kind x p (no e) = inl (p.0, omega (arith, p.1, e), p.2)
