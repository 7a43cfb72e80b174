-- The words of a language over so many letters: exactly those of its words that have no other letter.
use mathlib.Core.Path.{◌≡◌, refl, sym, ap, ◌∙◌}
use mathlib.Core.Bool.{true, false, ◌&&◌, and-false, and_assoc}
use mathlib.Core.Logic.{◌⊎◌, inl, inr}
use mathlib.Core.List.{List, [], ◌∷◌, ◌++◌}
use Prim.Native.Nat.{ℕ, ◌≤◌}
use borrow.Author.Tests.{lt-ltb, le-ltb, ltb-true}
use lib.Dec.{ltb}
use Rattle.automata.specs.Word.{Over, is_over}
use Rattle.automata.specs.Language.{Language, Same, restriction}
use Rattle.automata.proofs.Xor.{bool_cases}
use Rattle.automata.proofs.Span.{and_parts}

module _ (a : ℕ) where
  -- The truth value says whether every letter is below a.
  pub is_over_lem : (w : List ℕ) → Over a w → is_over a w ≡ true
  is_over_lem [] o = refl
  is_over_lem (l ∷ w) o = rw (lt-ltb l a o.0) (is_over_lem w o.1)

  pub over_is : (w : List ℕ) → is_over a w ≡ true → Over a w
  over_is [] e = tt
  over_is (l ∷ w) e =
      let p = and_parts (ltb l a) (is_over a w) e in
      (ltb-true l a p.0, over_is w p.1)

  pub is_over_append : (u v : List ℕ) → is_over a (u ++ v) ≡ is_over a u && is_over a v
  is_over_append [] v = refl
  is_over_append (l ∷ u) v = ap (λ b. ltb l a && b) (is_over_append u v) ∙ sym (and_assoc (ltb l a) (is_over a u) (is_over a v))

  module _ (L : Language) where
    pub restriction_over : (w : List ℕ) → Over a w → restriction a L w ≡ L w
    restriction_over w o = ap (λ b. b && L w) (is_over_lem w o)

    pub restriction_parts : (w : List ℕ) → restriction a L w ≡ true → Over a w × (L w ≡ true)
    restriction_parts w e =
        let p = and_parts (is_over a w) (L w) e in
        (over_is w p.0, p.1)

    -- One other letter is enough, wherever it comes.
    pub restriction_foreign : (u : List ℕ) (l : ℕ) (v : List ℕ) → a ≤ l → restriction a L (u ++ (l ∷ v)) ≡ false
    restriction_foreign u l v h = rw (is_over_append u (l ∷ v), le-ltb l a h, and-false (is_over a u))

  -- It is one of the words over these letters alone.
  pub restriction_same : (L K : Language) → Same a L K → (w : List ℕ) → restriction a L w ≡ restriction a K w
  restriction_same L K same w = go (bool_cases (is_over a w))
    where
      go : (is_over a w ≡ true) ⊎ (is_over a w ≡ false) → is_over a w && L w ≡ is_over a w && K w
      go (inl e) = ap (λ b. is_over a w && b) (same w (over_is w e))
      go (inr e) = rw e
