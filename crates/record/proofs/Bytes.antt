-- Numbers as bytes, at every width: what is read back from bytes that were written, and the bytes of numbers that were read.
use mathlib.Core.Path.{◌≡◌, refl, sym, ap, subst, ◌∙◌}
use mathlib.Core.List.{List, [], ◌∷◌, ◌++◌, append_assoc, append-nil}
use Prim.Native.Nat.{ℕ, zero, suc, ◌+◌, ◌*◌, ◌/◌, ◌%◌, ◌^◌, ◌≤◌, ◌<◌}
use native.Mathlib.Nat.{add_assoc, zero-lt-suc, mul-zero, mul-suc, pow-suc, div-lt_iff_lt-mul}
use native.Mathlib.Numerals.{add-one}
use native.Mathlib.Omega.{arith}
use lib.ListN.{length, get_or, take, drop, length-append}
use lib.Seq.{get_or-append-add, take-add, drop-cons, drop-drop}
use Rattle.automata.specs.WordList.{join_below}
use Rattle.record.specs.Bytes.{number, bytes_of, all_bytes, AllBelow}

module _ (bs : List ℕ) (p : ℕ) where
  pub number_2 : number 2 bs p ≡ get_or bs p 0 + 256 * get_or bs (p + 1) 0
  unfolding number
  number_2 = omega arith

  pub number_4 : number 4 bs p ≡ get_or bs p 0 + 256 * get_or bs (p + 1) 0 + 65536 * get_or bs (p + 2) 0 + 16777216 * get_or bs (p + 3) 0
  unfolding number
  number_4 = simp add_assoc (omega arith)

-- ---- lengths

pub length_bytes_of : (w x : ℕ) → length (bytes_of w x) ≡ w
unfolding bytes_of
length_bytes_of zero x = refl
length_bytes_of (suc w) x = ap suc (length_bytes_of w (x / 256))

pub length_all_bytes : (w : ℕ) (xs : List ℕ) → length (all_bytes w xs) ≡ w * length xs
unfolding all_bytes
length_all_bytes w [] = sym (mul-zero w)
length_all_bytes w (x ∷ xs) =
    length-append (bytes_of w x) (all_bytes w xs)
    ∙ rw (length_bytes_of, length_all_bytes w xs, mul-suc) (omega arith)

pub all_bytes_append : (w : ℕ) (xs ys : List ℕ) → all_bytes w (xs ++ ys) ≡ all_bytes w xs ++ all_bytes w ys
unfolding all_bytes
all_bytes_append w [] ys = refl
all_bytes_append w (x ∷ xs) ys = rw (all_bytes_append w xs ys) (sym (append_assoc (bytes_of w x) (all_bytes w xs) (all_bytes w ys)))

pub all_bytes_one : (w x : ℕ) → all_bytes w (x ∷ []) ≡ bytes_of w x
unfolding all_bytes
all_bytes_one w x = append-nil (bytes_of w x)

-- ---- bytes are below 256

pub bytes_of_below : (w x : ℕ) → AllBelow 256 (bytes_of w x)
unfolding bytes_of
bytes_of_below zero x i = omega arith
bytes_of_below (suc w) x zero = omega arith
bytes_of_below (suc w) x (suc i) = bytes_of_below w (x / 256) i

-- ---- written, then read

-- A number past the front of a list is read in the rest.
pub number_append : (h t : List ℕ) (w p : ℕ) → number w (h ++ t) (length h + p) ≡ number w t p
unfolding number
number_append h t zero p = refl
number_append h t (suc w) p = rw (get_or-append-add h t p 0, add_assoc (length h) p 1, number_append h t w (p + 1))

number_bytes_of : (w x : ℕ) (t : List ℕ) → x < 256 ^ w → number w (bytes_of w x ++ t) 0 ≡ x
unfolding number bytes_of
number_bytes_of zero x t h = omega arith
number_bytes_of (suc w) x t h =
    let high : x / 256 < 256 ^ w = (div-lt_iff_lt-mul (zero-lt-suc 255)).1 (subst (λ y. x < y) (pow-suc 256 w) h) in
    let rest : number w (x % 256 ∷ (bytes_of w (x / 256) ++ t)) 1 ≡ x / 256 =
    number_append (x % 256 ∷ []) (bytes_of w (x / 256) ++ t) w 0 ∙ number_bytes_of w (x / 256) t high in
    rw rest (omega arith)

number_all_bytes : (w : ℕ) (xs : List ℕ) → AllBelow (256 ^ w) xs → (j : ℕ) → j < length xs → number w (all_bytes w xs) (w * j) ≡ get_or xs j 0
unfolding all_bytes
number_all_bytes w [] fit j h = absurd (omega arith)
number_all_bytes w (x ∷ xs) fit zero h = rw mul-zero (number_bytes_of w x (all_bytes w xs) (fit 0))
number_all_bytes w (x ∷ xs) fit (suc j) h =
    let e : w * suc j ≡ length (bytes_of w x) + w * j = rw (mul-suc, length_bytes_of) (omega arith) in
    rw e
    (number_append (bytes_of w x) (all_bytes w xs) w (w * j)
    ∙ number_all_bytes w xs (λ i. fit (suc i)) j (omega arith))

-- The j-th of the numbers whose bytes follow a head is read back.
pub number_written : (h : List ℕ) (w : ℕ) (xs : List ℕ) → AllBelow (256 ^ w) xs → (j : ℕ) → j < length xs → number w (h ++ all_bytes w xs) (length h + w * j) ≡ get_or xs j 0
number_written h w xs fit j p = number_append h (all_bytes w xs) w (w * j) ∙ number_all_bytes w xs fit j p

-- ---- read, then written

-- k numbers of w bytes each, one after another from offset p.
abbrev pub numbers : ℕ → List ℕ → ℕ → ℕ → List ℕ
numbers w bs p k = join_below k (λ i. number w bs (p + w * i) ∷ [])

module _ (bs : List ℕ) (byte : AllBelow 256 bs) where
  pub bytes_of_number : (w p : ℕ) → p + w ≤ length bs → bytes_of w (number w bs p) ≡ take w (drop p bs)
  unfolding bytes_of number
  bytes_of_number zero p h = refl
  bytes_of_number (suc w) p h =
      let b = byte p in
      let inside : p < length bs = omega arith in
      let low : (get_or bs p 0 + 256 * number w bs (p + 1)) % 256 ≡ get_or bs p 0 = omega arith in
      let high : (get_or bs p 0 + 256 * number w bs (p + 1)) / 256 ≡ number w bs (p + 1) = omega arith in
      rw (low, high, drop-cons bs p 0, bytes_of_number w (p + 1) (omega arith), add-one)

  pub all_bytes_numbers : (w p k : ℕ) → p + w * k ≤ length bs → all_bytes w (numbers w bs p k) ≡ take (w * k) (drop p bs)
  unfolding all_bytes
  all_bytes_numbers w p zero h = rw mul-zero
  all_bytes_numbers w p (suc k) h =
      let h' = rw mul-suc at h in
      rw (
        all_bytes_append,
        all_bytes_one,
        all_bytes_numbers w p k (omega arith),
        bytes_of_number w (p + w * k) (omega arith),
        mul-suc,
        take-add,
        drop-drop,
      )
