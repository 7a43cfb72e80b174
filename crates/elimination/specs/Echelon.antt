-- A reduced basis of rows of n bits, indexed by its pivots: the reduced row echelon form.
-- R are the m rows found. For a pivot j, a place where P holds, E j is the basis row whose pivot is j, and C j the set of rows of R
-- that make it.
--   onto n P F y      the xor of the members of F at the pivots that y has
--   rest n P E y      what is left of y when the basis rows at its pivots are taken off
--   Echelon           what the basis keeps
--   Extended          how one more row changes it
use Rattle.std.specs.Prelude.{◌≡◌, Bool, true, false, ◌&&◌, ℕ, ◌<◌, ◌≤◌, eqb}
use Rattle.automata.specs.Xor.{◌⊕◌, comb}
use Rattle.automata.specs.Dimension.{Independent}

abbrev pub onto : ℕ → (ℕ → Bool) → (ℕ → ℕ → Bool) → (ℕ → Bool) → ℕ → Bool
onto n P F y k = comb n (λ j. y j && P j) F k

abbrev pub rest : ℕ → (ℕ → Bool) → (ℕ → ℕ → Bool) → (ℕ → Bool) → ℕ → Bool
rest n P E y k = y k ⊕ onto n P E y k

pub record Echelon (n m : ℕ) (P : ℕ → Bool) (R E C : ℕ → ℕ → Bool) : Type 0 where
  pub thin : (i : ℕ) → i < m → (k : ℕ) → n ≤ k → R i k ≡ false
  pub sum : (j : ℕ) → j < n → P j ≡ true → (k : ℕ) → E j k ≡ comb m (C j) R k
  -- Among the pivots, a basis row has its own alone.
  pub unit : (i j : ℕ) → i < n → j < n → P i ≡ true → P j ≡ true → E i j ≡ eqb i j
  pub span : (i : ℕ) → i < m → (k : ℕ) → R i k ≡ onto n P E (R i) k
  pub short : (j i : ℕ) → j < n → P j ≡ true → m ≤ i → C j i ≡ false
  pub free : Independent (λ k. k < n) m R

-- A new row y with the pivot q: what is left of it goes to every basis row that has bit q, and becomes the basis row of q.
pub record Extended (n m : ℕ) (P : ℕ → Bool) (R E C : ℕ → ℕ → Bool) (y : ℕ → Bool) (q : ℕ) (P' : ℕ → Bool) (R' E' C' : ℕ → ℕ → Bool) : Type 0 where
  pub row_old : (i k : ℕ) → i < m → R' i k ≡ R i k
  pub row_new : (k : ℕ) → R' m k ≡ y k
  pub base_old : (j k : ℕ) → j < n → P j ≡ true → (j ≡ q → ⊥) → E' j k ≡ E j k ⊕ (E j q && rest n P E y k)
  pub base_new : (k : ℕ) → E' q k ≡ rest n P E y k
  pub coef_old : (j i : ℕ) → j < n → P j ≡ true → (j ≡ q → ⊥) → C' j i ≡ C j i ⊕ (E j q && (onto n P C y i ⊕ eqb i m))
  pub coef_new : (i : ℕ) → C' q i ≡ onto n P C y i ⊕ eqb i m
  pub pivots : (j : ℕ) → P' j ≡ P j ⊕ eqb j q
