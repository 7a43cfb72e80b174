-- Decimal figures: those of a number are those of its tenth part and then the last; they are read back as the number.
use mathlib.Core.Path.{◌≡◌, refl, sym, ap, ◌∙◌}
use mathlib.Core.List.{List, [], ◌∷◌, ◌++◌}
use Prim.Native.Nat.{ℕ, zero, suc, ◌+◌, ◌-◌, ◌*◌, ◌/◌, ◌%◌, ◌^◌, ◌≤◌, ◌<◌}
use native.Mathlib.Numerals.{add-one}
use native.Mathlib.Decide.{dec_lt}
use native.Mathlib.Omega.{arith}
use borrow.Author.Tests.{lt-ltb, le-ltb}
use lib.ListN.{length, get_or, length-append, get_or-append}
use Rattle.std.specs.Fmt.{decimal as printed}
use Rattle.std.proofs.lemmas.Fmt.{decimal_from_appends, length-decimal-le, length-decimal-le_succ}
use Rattle.text.specs.Text.{digit, figures, decimal}

-- ---- the figures of a number

figures_one : (k n : ℕ) → n < 10 → figures (suc k) n ≡ digit n ∷ []
unfolding figures
figures_one k n h = simp (lt-ltb n 10 h)

figures_more : (k n : ℕ) → 10 ≤ n → figures (suc k) n ≡ figures k (n / 10) ++ (digit (n % 10) ∷ [])
unfolding figures
figures_more k n h = simp (le-ltb n 10 h)

-- How many figures are allowed does not matter as long as there are enough.
figures_same : (j k n : ℕ) → n < j → n < k → figures j n ≡ figures k n
figures_same zero k n p q = absurd (omega arith)
figures_same (suc j) zero n p q = absurd (omega arith)
figures_same (suc j) (suc k) n p q = go (dec_lt n 10) (λ less. figures_same j k (n / 10) (omega arith) (omega arith))
  where
    go : Dec (n < 10) → (10 ≤ n → figures j (n / 10) ≡ figures k (n / 10)) → figures (suc j) n ≡ figures (suc k) n
    go (yes h) rest = figures_one j n h ∙ sym (figures_one k n h)
    go (no h) rest =
        let more : 10 ≤ n = omega arith in
        figures_more j n more ∙ rw (rest more) (sym (figures_more k n more))

module _ (n : ℕ) where
  pub decimal_one : n < 10 → decimal n ≡ digit n ∷ []
  unfolding decimal
  decimal_one = figures_one n n

  pub decimal_more : 10 ≤ n → decimal n ≡ decimal (n / 10) ++ (digit (n % 10) ∷ [])
  unfolding decimal
  decimal_more h = figures_more n n h ∙ rw (figures_same n (suc (n / 10)) (n / 10) (omega arith) (omega arith))

  pub length_one : n < 10 → length (decimal n) ≡ 1
  length_one h = ap length (decimal_one h)

  pub length_more : 10 ≤ n → length (decimal n) ≡ length (decimal (n / 10)) + 1
  length_more h = ap length (decimal_more h) ∙ length-append (decimal (n / 10)) (digit (n % 10) ∷ [])

-- ---- by tenths

-- What holds of the numbers below 10, and of a number where it holds of its tenth part, holds of every number.
module _ (P : ℕ → Type 0) (one : (n : ℕ) → n < 10 → P n) (more : (n : ℕ) → 10 ≤ n → P (n / 10) → P n) where
  tenths_below : (k n : ℕ) → n < k → P n
  tenths_below zero n h = absurd (omega arith)
  tenths_below (suc k) n h = go (dec_lt n 10) (λ tens. tenths_below k (n / 10) (omega arith))
    where
      go : Dec (n < 10) → (10 ≤ n → P (n / 10)) → P n
      go (yes p) rest = one n p
      go (no p) rest = let tens : 10 ≤ n = omega arith in more n tens (rest tens)

  by_tenths : (n : ℕ) → P n
  by_tenths n = tenths_below (suc n) n (omega arith)

-- ---- the value of figures

-- The number that figures say after some that said m.
abbrev pub value_after : ℕ → List ℕ → ℕ
value_after m [] = m
value_after m (x ∷ xs) = value_after (10 * m + (x - digit 0)) xs

value_last : (m : ℕ) (xs : List ℕ) (x : ℕ) → value_after m (xs ++ (x ∷ [])) ≡ 10 * value_after m xs + (x - digit 0)
value_last m [] x = refl
value_last m (y ∷ xs) x = value_last (10 * m + (y - digit 0)) xs x

pub decimal_value : (n : ℕ) → value_after 0 (decimal n) ≡ n
decimal_value =
    by_tenths (λ n. value_after 0 (decimal n) ≡ n)
    (λ n h. rw (decimal_one n h) (omega arith))
    (λ n h rest. rw (decimal_more n h, value_last 0 (decimal (n / 10)) (digit (n % 10)), rest) (omega arith))

-- Two numbers with the same figures are the same.
pub decimal_injective : (m n : ℕ) → decimal m ≡ decimal n → m ≡ n
decimal_injective m n e = sym (decimal_value m) ∙ ap (value_after 0) e ∙ decimal_value n

-- ---- how many figures, and the first

pub decimal_some : (n : ℕ) → 1 ≤ length (decimal n)
decimal_some =
    by_tenths (λ n. 1 ≤ length (decimal n)) (λ n h. rw (decimal_one n h) (omega arith))
    (λ n h rest. rw (length_more n h) (omega arith))

-- No zero stands in front, but for 0 itself.
pub decimal_front : (n : ℕ) → 0 < n → digit 0 < get_or (decimal n) 0 0
decimal_front =
    by_tenths (λ n. 0 < n → digit 0 < get_or (decimal n) 0 0)
    (λ n h p. rw (decimal_one n h) (omega arith))
    (λ n h rest p.
    rw (decimal_more n h, get_or-append (decimal (n / 10)) (digit (n % 10) ∷ []) 0 0 (decimal_some (n / 10)))
    (rest (omega arith)))

-- They are those that the library prints.
pub decimal_printed : (n : ℕ) → n < 2 ^ 64 → decimal n ≡ printed n
unfolding decimal
decimal_printed n h = decimal_from_appends figures (record { one = figures_one; more = figures_more }) (suc n) n h (rw add-one at (length-decimal-le_succ n h))

pub decimal_length : (n : ℕ) → n < 2 ^ 64 → length (decimal n) ≤ 20
decimal_length n h = rw (decimal_printed n h) (length-decimal-le 20 n (omega arith) (omega arith) h)
