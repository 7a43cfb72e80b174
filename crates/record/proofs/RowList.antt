-- The rows of a record as one list: where each stands, and what bounds them.
use mathlib.Core.Path.{◌≡◌, sym}
use mathlib.Core.List.{List, [], ◌∷◌, ◌++◌, append_assoc, append-nil}
use Prim.Native.Nat.{ℕ, zero, suc, ◌+◌, ◌*◌, ◌<◌}
use native.Mathlib.Nat.{add-zero, lt_of_lt_of_le, mul-le-mul_right, suc-mul, zero-mul}
use native.Mathlib.Omega.{arith}
use Rattle.automata.specs.WordList.{join_below}
use Rattle.automata.specs.Fields.{rows_of}
use Rattle.record.specs.Bytes.{AllBelow}

join_add : {X : Type 0} (m k : ℕ) (f : ℕ → List X) → join_below (m + k) f ≡ join_below m f ++ join_below k (λ i. f (m + i))
join_add m zero f = rw add-zero (sym (append-nil (join_below m f)))
join_add m (suc k) f =
    let e : m + suc k ≡ suc (m + k) = omega arith in
    rw (e, join_add m k f) (append_assoc (join_below m f) (join_below k (λ i. f (m + i))) (f (m + k)))

-- Rows that are numbered through stand in one list.
pub rows_flat : (a n : ℕ) (g : ℕ → ℕ) → rows_of a n (λ l i. g (l * n + i)) ≡ join_below (a * n) (λ k. g k ∷ [])
rows_flat zero n g = rw zero-mul
rows_flat (suc a) n g = rw (rows_flat a n g, suc-mul) (sym (join_add (a * n) n (λ k. g k ∷ [])))

-- The row of letter l and state i is one of a·n.
pub row_lt : (a n l i : ℕ) → l < a → i < n → l * n + i < a * n
row_lt a n l i hl hi = lt_of_lt_of_le {m = l * n + n} (omega arith) (rw suc-mul at (mul-le-mul_right n hl))

-- Members below m, end to end.
pub below_append : (m : ℕ) (xs ys : List ℕ) → AllBelow m xs → AllBelow m ys → AllBelow m (xs ++ ys)
below_append m [] ys hx hy i = hy i
below_append m (x ∷ xs) ys hx hy zero = hx 0
below_append m (x ∷ xs) ys hx hy (suc i) = below_append m xs ys (λ j. hx (suc j)) hy i

below_one : (m x : ℕ) → x < m → AllBelow m (x ∷ [])
below_one m x h zero = h
below_one m x h (suc i) = omega arith

below_join : (m k : ℕ) (f : ℕ → List ℕ) → 0 < m → ((i : ℕ) → AllBelow m (f i)) → AllBelow m (join_below k f)
below_join m zero f p h i = p
below_join m (suc k) f p h i = below_append m (join_below k f) (f k) (below_join m k f p h) (h k) i

pub rows_below : (m a n : ℕ) (f : ℕ → ℕ → ℕ) → 0 < m → ((l i : ℕ) → f l i < m) → AllBelow m (rows_of a n f)
rows_below m a n f p h = below_join m a _ p (λ l. below_join m n _ p (λ i. below_one m (f l i) (h l i)))
