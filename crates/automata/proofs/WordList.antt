-- The lists of all words of a length, and below a length, are complete, sound and in shortlex order.
use mathlib.Core.Path.{◌≡◌, refl, sym, ap, subst, ◌∙◌}
use mathlib.Core.Bool.{Bool, true, and-eq-true_iff}
use mathlib.Core.Logic.{◌⊎◌, inl, inr}
use mathlib.Core.List.{List, [], ◌∷◌, ◌++◌, map}
use Prim.Native.Nat.{ℕ, zero, suc, ◌<◌}
use native.Mathlib.Nat.{not-suc-le-zero}
use native.Mathlib.Decide.{ℕ_discrete}
use native.Mathlib.Omega.{arith}
use lib.ListN.{length}
use Rattle.automata.specs.Word.{Over, Shortlex}
use Rattle.automata.specs.Count.{Member}
use Rattle.automata.specs.WordList.{join_below, words_of_length, words_below, all_of}
use Rattle.automata.proofs.Count.{mem_left, mem_right, mem_cases, mem_map, mem_map_cases}

abbrev pub Sorted : List (List ℕ) → Type 0
Sorted [] = Unit {0}
Sorted (w ∷ ws) = ((u : List ℕ) → Member u ws → Shortlex w u) × Sorted ws

pub sorted_append : (xs ys : List (List ℕ)) → Sorted xs → Sorted ys → ((u v : List ℕ) → Member u xs → Member v ys → Shortlex u v) → Sorted (xs ++ ys)
sorted_append [] ys p q h = q
sorted_append (x ∷ xs) ys p q h = (λ u m. go u (mem_cases u xs ys m), sorted_append xs ys p.1 q (λ u v m n. h u v (inr m) n))
  where
    go : (u : List ℕ) → Member u xs ⊎ Member u ys → Shortlex x u
    go u (inl m) = p.0 u m
    go u (inr m) = h x u (inl refl) m

pub mem_join : (u : List ℕ) (k : ℕ) (f : ℕ → List (List ℕ)) (i : ℕ) → i < k → Member u (f i) → Member u (join_below k f)
mem_join u zero f i h m = absurd (not-suc-le-zero h)
mem_join u (suc k) f i h m = go (ℕ_discrete i k) (λ q. mem_join u k f i q m)
  where
    go : Dec (i ≡ k) → (i < k → Member u (join_below k f)) → Member u (join_below k f ++ f k)
    go (yes e) ih = mem_right u (join_below k f) (f k) (subst (λ j. Member u (f j)) e m)
    go (no e) ih = mem_left u (join_below k f) (f k) (ih (omega (arith, e)))

pub mem_join_cases : (u : List ℕ) (k : ℕ) (f : ℕ → List (List ℕ)) → Member u (join_below k f) → (i : ℕ) × (i < k) × Member u (f i)
mem_join_cases u zero f m = absurd m
mem_join_cases u (suc k) f m = go (mem_cases u (join_below k f) (f k) m) (λ n. mem_join_cases u k f n)
  where
    go : Member u (join_below k f) ⊎ Member u (f k) → (Member u (join_below k f) → (i : ℕ) × (i < k) × Member u (f i)) → (i : ℕ) × (i < suc k) × Member u (f i)
    go (inl n) ih = let t = ih n in (t.0, omega (arith, t.1), t.2)
    go (inr n) ih = (k, omega arith, n)

pub sorted_join : (k : ℕ) (f : ℕ → List (List ℕ)) → ((i : ℕ) → i < k → Sorted (f i)) → ((i j : ℕ) → i < j → (u v : List ℕ) → Member u (f i) → Member v (f j) → Shortlex u v) → Sorted (join_below k f)
sorted_join zero f s h = tt
sorted_join (suc k) f s h =
    sorted_append (join_below k f) (f k) (sorted_join k f (λ i p. s i (omega arith)) h) (s k (omega arith))
    (λ u v m n. let t = mem_join_cases u k f m in h t.0 k t.1 u v t.2 n)

-- ---- words that begin with one letter

shortlex_cons : (l : ℕ) (u v : List ℕ) → Shortlex u v → Shortlex (l ∷ u) (l ∷ v)
shortlex_cons l u v (inl h) = inl (omega arith)
shortlex_cons l u v (inr h) = inr (ap suc h.0, inr (refl, h.1))

sorted_cons : (l : ℕ) (ws : List (List ℕ)) → Sorted ws → Sorted (map (λ w. l ∷ w) ws)
sorted_cons l [] s = tt
sorted_cons l (x ∷ xs) s = (λ u m. let t = mem_map_cases (λ u. l ∷ u) u xs m in rw t.1 (shortlex_cons l x t.0 (s.0 t.0 t.2)), sorted_cons l xs s.1)

-- ---- the words of one length, and those below a length

pub words_sound : (a n : ℕ) (w : List ℕ) → Member w (words_of_length a n) → (length w ≡ n) × Over a w
words_sound a zero w (inl e) = (ap length e, subst (Over a) (sym e) tt)
words_sound a zero w (inr m) = absurd m
words_sound a (suc n) w m = go (mem_join_cases w a (λ l. map (λ u. l ∷ u) (words_of_length a n)) m) (λ u q. words_sound a n u q)
  where
    go : (l : ℕ) × (l < a) × Member w (map (λ u. l ∷ u) (words_of_length a n)) → ((u : List ℕ) → Member u (words_of_length a n) → (length u ≡ n) × Over a u) → (length w ≡ suc n) × Over a w
    go t ih =
        let s = mem_map_cases (λ u. t.0 ∷ u) w (words_of_length a n) t.2 in
        let r = ih s.0 s.2 in
        (ap length s.1 ∙ ap suc r.0, subst (Over a) (sym s.1) (t.1, r.1))

pub words_complete : (a : ℕ) (w : List ℕ) → Over a w → Member w (words_of_length a (length w))
words_complete a [] ow = inl refl
words_complete a (l ∷ w) ow = mem_join (l ∷ w) a (λ k. map (λ u. k ∷ u) (words_of_length a (length w))) l ow.0 (mem_map (λ u. l ∷ u) w (words_of_length a (length w)) (words_complete a w ow.1))

pub words_sorted : (a n : ℕ) → Sorted (words_of_length a n)
words_sorted a zero = (λ u m. absurd m, tt)
words_sorted a (suc n) = sorted_join a (λ l. map (λ w. l ∷ w) (words_of_length a n)) (λ l p. sorted_cons l (words_of_length a n) (words_sorted a n)) across
  where
    across : (i j : ℕ) → i < j → (u v : List ℕ) → Member u (map (λ w. i ∷ w) (words_of_length a n)) → Member v (map (λ w. j ∷ w) (words_of_length a n)) → Shortlex u v
    across i j h u v m k =
        let s = mem_map_cases (λ u. i ∷ u) u (words_of_length a n) m in
        let t = mem_map_cases (λ u. j ∷ u) v (words_of_length a n) k in
        rw (s.1, t.1) (inr (ap suc ((words_sound a n s.0 s.2).0 ∙ sym (words_sound a n t.0 t.2).0), inl h))

pub below_sound : (a n : ℕ) (w : List ℕ) → Member w (words_below a n) → (length w < n) × Over a w
below_sound a n w m = let t = mem_join_cases w n (words_of_length a) m in let s = words_sound a t.0 w t.2 in (omega (arith, t.1, s.0), s.1)

pub below_complete : (a n : ℕ) (w : List ℕ) → length w < n → Over a w → Member w (words_below a n)
below_complete a n w h ow = mem_join w n (words_of_length a) (length w) h (words_complete a w ow)

pub below_sorted : (a n : ℕ) → Sorted (words_below a n)
below_sorted a n = sorted_join n (words_of_length a) (λ i p. words_sorted a i) (λ i j h u v m k. inl (omega (arith, (words_sound a i u m).0, (words_sound a j v k).0)))

-- ---- tests over a list

pub all_of_lem : {X : Type 0} (f : X → Bool) (xs : List X) → all_of f xs ≡ true → (x : X) → Member x xs → f x ≡ true
all_of_lem f [] e x m = absurd m
all_of_lem f (y ∷ ys) e x (inl q) = ap f q ∙ ((and-eq-true_iff (f y) (all_of f ys)).0 e).0
all_of_lem f (y ∷ ys) e x (inr m) = all_of_lem f ys ((and-eq-true_iff (f y) (all_of f ys)).0 e).1 x m

pub of_all : {X : Type 0} (f : X → Bool) (xs : List X) → ((x : X) → Member x xs → f x ≡ true) → all_of f xs ≡ true
of_all f [] h = refl
of_all f (y ∷ ys) h = (and-eq-true_iff (f y) (all_of f ys)).1 (h y (inl refl), of_all f ys (λ x m. h x (inr m)))
