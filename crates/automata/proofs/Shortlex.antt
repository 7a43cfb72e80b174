-- Words over the letters, and shortlex order on words.
use mathlib.Core.Path.{◌≡◌, refl, sym, ap₂, ◌∙◌}
use mathlib.Core.Logic.{◌⊎◌, inl, inr}
use mathlib.Core.List.{List, [], ◌∷◌, ◌++◌, reverse, reverse-cons}
use Prim.Native.Nat.{ℕ, zero, suc, ◌≤◌, ◌<◌}
use native.Mathlib.Nat.{not-suc-le-zero}
use native.Mathlib.Decide.{ℕ_discrete, dec_lt}
use native.Mathlib.Omega.{arith}
use lib.ListN.{length, get_or, take, drop, length-append, take-append-drop}
use Rattle.automata.specs.Word.{Over, Lex, Shortlex}

pub over_at : (a : ℕ) (w : List ℕ) → Over a w → (i : ℕ) → i < length w → get_or w i 0 < a
over_at a [] o i h = absurd (omega arith)
over_at a (l ∷ w) o zero h = o.0
over_at a (l ∷ w) o (suc i) h = over_at a w o.1 i (omega arith)

-- A word over some letters is over more.
pub over_more : {a b : ℕ} → a ≤ b → (w : List ℕ) → Over a w → Over b w
over_more h [] o = tt
over_more h (l ∷ w) o = (omega (arith, o.0), over_more h w o.1)

pub over_append : (a : ℕ) (u v : List ℕ) → Over a u → Over a v → Over a (u ++ v)
over_append a [] v p q = q
over_append a (l ∷ u) v p q = (p.0, over_append a u v p.1 q)

pub over_left : (a : ℕ) (u v : List ℕ) → Over a (u ++ v) → Over a u
over_left a [] v p = tt
over_left a (l ∷ u) v p = (p.0, over_left a u v p.1)

pub over_right : (a : ℕ) (u v : List ℕ) → Over a (u ++ v) → Over a v
over_right a [] v p = p
over_right a (l ∷ u) v p = over_right a u v p.1

pub over_take : (a i : ℕ) (w : List ℕ) → Over a w → Over a (take i w)
over_take a i w p = over_left a (take i w) (drop i w) (rw take-append-drop p)

pub over_drop : (a i : ℕ) (w : List ℕ) → Over a w → Over a (drop i w)
over_drop a i w p = over_right a (take i w) (drop i w) (rw take-append-drop p)

pub over_reverse : (a : ℕ) (w : List ℕ) → Over a w → Over a (reverse w)
over_reverse a [] ow = tt
over_reverse a (l ∷ w) ow = rw (reverse-cons l w) (over_append a (reverse w) (l ∷ []) (over_reverse a w ow.1) (ow.0, tt))

pub lex_irrefl : (u : List ℕ) → Lex u u → ⊥
lex_irrefl [] h = h
lex_irrefl (x ∷ u) (inl h) = omega arith
lex_irrefl (x ∷ u) (inr h) = lex_irrefl u h.1

pub lex_trans : (u v w : List ℕ) → Lex u v → Lex v w → Lex u w
lex_trans [] v w p q = absurd p
lex_trans (x ∷ u) [] w p q = absurd p
lex_trans (x ∷ u) (y ∷ v) [] p q = absurd q
lex_trans (x ∷ u) (y ∷ v) (z ∷ w) (inl p) (inl q) = inl (omega arith)
lex_trans (x ∷ u) (y ∷ v) (z ∷ w) (inl p) (inr q) = inl (omega arith)
lex_trans (x ∷ u) (y ∷ v) (z ∷ w) (inr p) (inl q) = inl (omega arith)
lex_trans (x ∷ u) (y ∷ v) (z ∷ w) (inr p) (inr q) = inr (p.0 ∙ q.0, lex_trans u v w p.1 q.1)

pub lex_append : (u v x y : List ℕ) → Lex u v → Lex (u ++ x) (v ++ y)
lex_append [] v x y h = absurd h
lex_append (l ∷ u) [] x y h = absurd h
lex_append (l ∷ u) (k ∷ v) x y (inl h) = inl h
lex_append (l ∷ u) (k ∷ v) x y (inr h) = inr (h.0, lex_append u v x y h.1)

pub shortlex_irrefl : (u : List ℕ) → Shortlex u u → ⊥
shortlex_irrefl u (inl h) = omega arith
shortlex_irrefl u (inr h) = lex_irrefl u h.1

pub shortlex_trans : (u v w : List ℕ) → Shortlex u v → Shortlex v w → Shortlex u w
shortlex_trans u v w (inl p) (inl q) = inl (omega arith)
shortlex_trans u v w (inl p) (inr q) = inl (omega arith)
shortlex_trans u v w (inr p) (inl q) = inl (omega arith)
shortlex_trans u v w (inr p) (inr q) = inr (p.0 ∙ q.0, lex_trans u v w p.1 q.1)

-- Nothing is earlier than the empty word.
pub shortlex_nil : (u : List ℕ) → Shortlex u [] → ⊥
shortlex_nil u (inl h) = not-suc-le-zero h
shortlex_nil [] (inr h) = h.1
shortlex_nil (x ∷ u) (inr h) = h.1

-- One tail on both keeps the order.
pub shortlex_append : (u v x : List ℕ) → Shortlex u v → Shortlex (u ++ x) (v ++ x)
shortlex_append u v x (inl h) = inl (omega (arith, length-append u x, length-append v x))
shortlex_append u v x (inr h) = inr (omega (arith, length-append u x, length-append v x), lex_append u v x x h.1)

-- A letter behind each of two words keeps their order.
pub shortlex_snoc : (u v : List ℕ) (x y : ℕ) → Shortlex u v → Shortlex (u ++ (x ∷ [])) (v ++ (y ∷ []))
shortlex_snoc u v x y (inl h) = inl (omega (arith, length-append u (x ∷ []), length-append v (y ∷ [])))
shortlex_snoc u v x y (inr h) = inr (omega (arith, length-append u (x ∷ []), length-append v (y ∷ [])), lex_append u v (x ∷ []) (y ∷ []) h.1)

lex_last : (u : List ℕ) (x y : ℕ) → x < y → Lex (u ++ (x ∷ [])) (u ++ (y ∷ []))
lex_last [] x y h = inl h
lex_last (l ∷ u) x y h = inr (refl, lex_last u x y h)

pub shortlex_last : (u : List ℕ) (x y : ℕ) → x < y → Shortlex (u ++ (x ∷ [])) (u ++ (y ∷ []))
shortlex_last u x y h = inr (length-append u (x ∷ []) ∙ sym (length-append u (y ∷ [])), lex_last u x y h)

pub nil_shortlex_snoc : (u : List ℕ) (x : ℕ) → Shortlex [] (u ++ (x ∷ []))
nil_shortlex_snoc u x = inl (omega (arith, length-append u (x ∷ [])))

-- Of two words of one length, one is earlier or they are the same.
pub lex_cases : (u v : List ℕ) → length u ≡ length v → Lex u v ⊎ ((u ≡ v) ⊎ Lex v u)
lex_cases [] [] e = inr (inl refl)
lex_cases [] (y ∷ v) e = absurd (omega arith)
lex_cases (x ∷ u) [] e = absurd (omega arith)
lex_cases (x ∷ u) (y ∷ v) e = go (dec_lt x y) (ℕ_discrete x y) (lex_cases u v (omega arith))
  where
    go : Dec (x < y) → Dec (x ≡ y) → Lex u v ⊎ ((u ≡ v) ⊎ Lex v u) → Lex (x ∷ u) (y ∷ v) ⊎ ((x ∷ u ≡ y ∷ v) ⊎ Lex (y ∷ v) (x ∷ u))
    go (yes p) q r = inl (inl p)
    go (no p) (no q) r = inr (inr (inl (omega arith)))
    go (no p) (yes q) (inl r) = inl (inr (q, r))
    go (no p) (yes q) (inr (inl r)) = inr (inl (cc))
    go (no p) (yes q) (inr (inr r)) = inr (inr (inr (sym q, r)))

pub shortlex_cases : (u v : List ℕ) → Shortlex u v ⊎ ((u ≡ v) ⊎ Shortlex v u)
shortlex_cases u v = go (dec_lt (length u) (length v)) (ℕ_discrete (length u) (length v))
  where
    same : length u ≡ length v → Lex u v ⊎ ((u ≡ v) ⊎ Lex v u) → Shortlex u v ⊎ ((u ≡ v) ⊎ Shortlex v u)
    same q (inl r) = inl (inr (q, r))
    same q (inr (inl r)) = inr (inl r)
    same q (inr (inr r)) = inr (inr (inr (sym q, r)))

    go : Dec (length u < length v) → Dec (length u ≡ length v) → Shortlex u v ⊎ ((u ≡ v) ⊎ Shortlex v u)
    go (yes p) q = inl (inl p)
    go (no p) (no q) = inr (inr (inl (omega arith)))
    go (no p) (yes q) = same q (lex_cases u v q)

-- ---- lists of words in shortlex order

-- Every member of the first list is a member of the second.
abbrev Within : List (List ℕ) → List (List ℕ) → Type 0
Within bs cs = (k : ℕ) → k < length bs → (j : ℕ) × (j < length cs) × (get_or cs j [] ≡ get_or bs k [])

abbrev Rising : List (List ℕ) → Type 0
Rising bs = (i k : ℕ) → i < k → k < length bs → Shortlex (get_or bs i []) (get_or bs k [])

rising_tail : (x : List ℕ) (xs : List (List ℕ)) → Rising (x ∷ xs) → Rising xs
rising_tail x xs h i k p q = h (suc i) (suc k) (omega arith) (omega arith)

same_head : (x : List ℕ) (xs : List (List ℕ)) (y : List ℕ) (ys : List (List ℕ)) → Rising (x ∷ xs) → Rising (y ∷ ys) → Within (x ∷ xs) (y ∷ ys) → Within (y ∷ ys) (x ∷ xs) → x ≡ y
same_head x xs y ys p q m n =
    let s = m 0 (omega arith) in
    let t = n 0 (omega arith) in
    go s.0 s.1 s.2 t.0 t.1 t.2
  where
    go : (j : ℕ) → j < length (y ∷ ys) → get_or (y ∷ ys) j [] ≡ x → (k : ℕ) → k < length (x ∷ xs) → get_or (x ∷ xs) k [] ≡ y → x ≡ y
    go zero h e k g f = sym e
    go (suc j) h e zero g f = f
    go (suc j) h e (suc k) g f = absurd (shortlex_irrefl y (shortlex_trans y x y (rw e at (q 0 (suc j) (omega arith) h)) (rw f at (p 0 (suc k) (omega arith) g))))

within_tail : (x : List ℕ) (xs : List (List ℕ)) (y : List ℕ) (ys : List (List ℕ)) → x ≡ y → Rising (x ∷ xs) → Within (x ∷ xs) (y ∷ ys) → Within xs ys
within_tail x xs y ys e p m k h = let s = m (suc k) (omega arith) in go s.0 s.1 s.2
  where
    go : (j : ℕ) → j < length (y ∷ ys) → get_or (y ∷ ys) j [] ≡ get_or xs k [] → (j : ℕ) × (j < length ys) × (get_or ys j [] ≡ get_or xs k [])
    go zero g f = absurd (shortlex_irrefl x (rw (← f, ← e) at (p 0 (suc k) (omega arith) (omega arith))))
    go (suc j) g f = (j, omega arith, f)

-- Two lists of words in shortlex order with the same members are the same list.
pub rising_unique : (bs cs : List (List ℕ)) → Rising bs → Rising cs → Within bs cs → Within cs bs → bs ≡ cs
rising_unique [] [] p q m n = refl
rising_unique [] (y ∷ ys) p q m n = absurd (not-suc-le-zero (n 0 (omega arith)).1)
rising_unique (x ∷ xs) [] p q m n = absurd (not-suc-le-zero (m 0 (omega arith)).1)
rising_unique (x ∷ xs) (y ∷ ys) p q m n =
    let e = same_head x xs y ys p q m n in
    ap₂ ◌∷◌ e (rising_unique xs ys (rising_tail x xs p) (rising_tail y ys q) (within_tail x xs y ys e p m) (within_tail y ys x xs (sym e) q n))
