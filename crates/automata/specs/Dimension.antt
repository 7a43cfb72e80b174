-- Independence under xor, the dimension of a language, and its basis words (01: Meaning).
--   Independent P m f    no xor of some of f 0 .. f (m - 1), not none, vanishes at every point of P
--   Dependent P m f      some xor does
--   IsDimension a L d    d is the largest number of independent quotients of L (01: dimension)
--   Basis a L w          w is a basis word of L: its quotient is no xor of quotients by earlier words
use Rattle.std.specs.Prelude.{◌≡◌, Bool, true, false, List, ℕ, ◌<◌, ◌≤◌}
use Rattle.automata.specs.Xor.{xor_below, comb}
use Rattle.automata.specs.Word.{Over, Shortlex}
use Rattle.automata.specs.Language.{Language, quotient, Same}

-- Some of the first m members, not none, have an xor that is false at every point of P.
pub record Dependent {X : Type 0} (P : X → Type 0) (m : ℕ) (f : ℕ → X → Bool) : Type 0 where
  pub coef : ℕ → Bool
  pub place : ℕ
  pub below : place < m
  pub used : coef place ≡ true
  pub cancels : (x : X) → P x → comb m coef f x ≡ false

-- An xor of some of the first m members that is false at every point of P takes none of them.
abbrev pub Independent : {X : Type 0} → (X → Type 0) → ℕ → (ℕ → X → Bool) → Type 0
Independent {X} P m f = (c : ℕ → Bool) → ((x : X) → P x → comb m c f x ≡ false) → (i : ℕ) → i < m → c i ≡ false

-- The quotients of L by the words of a family.
abbrev pub quotients : Language → (ℕ → List ℕ) → ℕ → List ℕ → Bool
quotients L u i v = quotient L (u i) v

-- m words over a letters whose quotients are independent.
pub record Free (a : ℕ) (L : Language) (m : ℕ) : Type 0 where
  pub word : ℕ → List ℕ
  pub over : (i : ℕ) → i < m → Over a (word i)
  pub independent : Independent (Over a) m (quotients L word)

pub record IsDimension (a : ℕ) (L : Language) (d : ℕ) : Type 0 where
  pub reached : Free a L d
  pub largest : (m : ℕ) → Free a L m → m ≤ d

-- The quotient of L by w is the xor of the quotients by finitely many words that come before w; by none, it is the empty language.
pub record FromEarlier (a : ℕ) (L : Language) (w : List ℕ) : Type 0 where
  pub count : ℕ
  pub word : ℕ → List ℕ
  pub over : (i : ℕ) → i < count → Over a (word i)
  pub earlier : (i : ℕ) → i < count → Shortlex (word i) w
  pub sum : Same a (quotient L w) (λ v. xor_below count (λ i. quotient L (word i) v))

pub record Basis (a : ℕ) (L : Language) (w : List ℕ) : Type 0 where
  pub over : Over a w
  pub new : FromEarlier a L w → ⊥
