-- Tests of data, as truth values that antt computes, and what it means that they hold.
use mathlib.Core.Path.{◌≡◌, refl, ap, ap₂}
use mathlib.Core.Bool.{Bool, true, false, ◌&&◌, false≢true}
use mathlib.Core.List.{List, [], ◌∷◌}
use mathlib.Core.Option.{Option, none, some}
use Prim.Native.Nat.{ℕ, zero, suc, ◌<◌}
use native.Mathlib.Nat.{not-suc-le-zero}
use lib.Dec.{eqb}
use borrow.Author.Tests.{eqb-true}
use Rattle.automata.proofs.Below.{up_to}
use Rattle.automata.proofs.Span.{and_parts}
use Rattle.std.specs.Prelude.{Result, Ok, Err}

-- Every test of a list passes.
abbrev pub every : List Bool → Bool
every [] = true
every (b ∷ bs) = b && every bs

abbrev pub Passed : List Bool → Type 0
Passed [] = Unit {0}
Passed (b ∷ bs) = (b ≡ true) × Passed bs

pub every_true : (bs : List Bool) → every bs ≡ true → Passed bs
every_true [] e = tt
every_true (b ∷ bs) e = let t = and_parts b (every bs) e in (t.0, every_true bs t.1)

-- A check passes.
abbrev pub passed : {E : Type 0} → Result (Unit {0}) E → Bool
passed (Ok u) = true
passed (Err e) = false

pub passed_true : {E : Type 0} (c : Result (Unit {0}) E) → passed c ≡ true → c ≡ Ok tt
passed_true (Ok u) e = refl
passed_true (Err x) e = absurd (false≢true e)

abbrev pub same_list : List ℕ → List ℕ → Bool
same_list [] [] = true
same_list [] (y ∷ ys) = false
same_list (x ∷ xs) [] = false
same_list (x ∷ xs) (y ∷ ys) = eqb x y && same_list xs ys

pub same_true : (xs ys : List ℕ) → same_list xs ys ≡ true → xs ≡ ys
same_true [] [] e = refl
same_true [] (y ∷ ys) e = absurd (false≢true e)
same_true (x ∷ xs) [] e = absurd (false≢true e)
same_true (x ∷ xs) (y ∷ ys) e = let t = and_parts (eqb x y) (same_list xs ys) e in ap₂ ◌∷◌ (eqb-true x y t.0) (same_true xs ys t.1)

abbrev pub no_word : Option (List ℕ) → Bool
no_word none = true
no_word (some w) = false

pub none_true : (o : Option (List ℕ)) → no_word o ≡ true → o ≡ none
none_true none e = refl
none_true (some w) e = absurd (false≢true e)

abbrev pub is_word : List ℕ → Option (List ℕ) → Bool
is_word w none = false
is_word w (some u) = same_list u w

pub word_true : (w : List ℕ) (o : Option (List ℕ)) → is_word w o ≡ true → o ≡ some w
word_true w none e = absurd (false≢true e)
word_true w (some u) e = ap some (same_true u w e)

-- P at each number below k.
abbrev pub all_below : ℕ → (ℕ → Bool) → Bool
all_below zero P = true
all_below (suc k) P = all_below k P && P k

pub below_true : (k : ℕ) (P : ℕ → Bool) → all_below k P ≡ true → (i : ℕ) → i < k → P i ≡ true
below_true zero P e i h = absurd (not-suc-le-zero h)
below_true (suc k) P e i h = let t = and_parts (all_below k P) (P k) e in up_to {Q = λ i. P i ≡ true} k (below_true k P t.0) t.1 i h
