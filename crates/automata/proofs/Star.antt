-- The star of a language that lacks the empty word: the one solution of S = the empty word xor the concatenation of L and S.
use mathlib.Core.Path.{◌≡◌, refl, sym, ap, ap₂, ◌∙◌}
use mathlib.Core.Bool.{true, false, ◌&&◌, cond}
use mathlib.Core.List.{List, [], ◌∷◌}
use Prim.Native.Nat.{ℕ, zero, suc, ◌+◌}
use lib.ListN.{drop}
use Rattle.automata.specs.Xor.{◌⊕◌}
use Rattle.automata.specs.Automaton.{odd}
use Rattle.automata.specs.Word.{Over}
use Rattle.automata.specs.Language.{Language, Same, symmetric_difference}
use Rattle.automata.specs.Cuts.{empty_word, after, concatenation, rest_count, star, SolvesStar}
use Rattle.automata.proofs.Xor.{xor_comm, odd_add, odd_when}
use Rattle.automata.proofs.Concatenation.{concatenation_nil, concatenation_cons, concatenation_reads}

-- The rest of a piece, and then pieces: a concatenation with the star.
rest_concatenation : (K L : Language) (w : List ℕ) → odd (rest_count K L w) ≡ concatenation K (star L) w
rest_concatenation K L [] = odd_when (K []) 1 ∙ sym (concatenation_nil K (star L))
rest_concatenation K L (l ∷ w) =
    odd_add (rest_count (after l K) L w) (cond (K []) (rest_count (after l L) L w) 0)
    ∙ ap₂ ◌⊕◌ (rest_concatenation (after l K) L w) (odd_when (K []) (rest_count (after l L) L w))
    ∙ xor_comm (concatenation (after l K) (star L) w) (K [] && star L (l ∷ w))
    ∙ sym (concatenation_cons K (star L) l w)

-- What may follow a letter in the star.
pub star_cons : (L : Language) (l : ℕ) (w : List ℕ) → star L (l ∷ w) ≡ concatenation (after l L) (star L) w
star_cons L l w = rest_concatenation (after l L) L w

-- A concatenation with a language that lacks the empty word, at a word with a first letter.
lacking_cons : (L M : Language) → L [] ≡ false → (l : ℕ) (w : List ℕ) → concatenation L M (l ∷ w) ≡ concatenation (after l L) M w
lacking_cons L M e l w = concatenation_cons L M l w ∙ ap (λ b. (b && M (l ∷ w)) ⊕ concatenation (after l L) M w) e

lacking_nil : (L M : Language) → L [] ≡ false → concatenation L M [] ≡ false
lacking_nil L M e = concatenation_nil L M ∙ ap (λ b. b && M []) e

-- The star solves the equation.
pub star_equation : (L : Language) → L [] ≡ false → (w : List ℕ) → star L w ≡ symmetric_difference empty_word (concatenation L (star L)) w
star_equation L e [] = sym (ap (λ b. true ⊕ b) (lacking_nil L (star L) e))
star_equation L e (l ∷ w) = star_cons L l w ∙ sym (lacking_cons L (star L) e l w)

pub star_solves : (a : ℕ) (L : Language) → L [] ≡ false → SolvesStar a L (star L)
star_solves a L e w ow = star_equation L e w

module _ (a : ℕ) (L T : Language) (e : L [] ≡ false) (solves : SolvesStar a L T) where
  ends_same : (w : List ℕ) → Over a w → (i : ℕ) → T (drop i w) ≡ star L (drop i w)
  ends_same [] ow zero = solves [] tt ∙ ap (λ b. true ⊕ b) (lacking_nil L T e)
  ends_same [] ow (suc i) = solves [] tt ∙ ap (λ b. true ⊕ b) (lacking_nil L T e)
  ends_same (l ∷ w) ow zero =
      solves (l ∷ w) ow ∙ lacking_cons L T e l w
      ∙ concatenation_reads (after l L) (after l L) T (star L) w (λ i. refl) (ends_same w ow.1)
      ∙ sym (star_cons L l w)
  ends_same (l ∷ w) ow (suc i) = ends_same w ow.1 i

  -- And it is the only solution.
  pub star_unique : Same a T (star L)
  star_unique w ow = ends_same w ow 0

-- ---- languages with the same words

rest_same : (a : ℕ) (L M : Language) → Same a L M → (K N : Language) → Same a K N → (w : List ℕ) → Over a w → rest_count K L w ≡ rest_count N M w
rest_same a L M h K N g [] ow = ap (λ b. cond b 1 0) (g [] tt)
rest_same a L M h K N g (l ∷ w) ow =
    ap₂ ◌+◌ (rest_same a L M h (after l K) (after l N) (λ u ou. g (l ∷ u) (ow.0, ou)) w ow.1)
    (ap₂ (λ b n. cond b n 0) (g [] tt) (rest_same a L M h (after l L) (after l M) (λ u ou. h (l ∷ u) (ow.0, ou)) w ow.1))

-- They have stars with the same words.
pub star_same : (a : ℕ) (L M : Language) → Same a L M → Same a (star L) (star M)
star_same a L M h [] ow = refl
star_same a L M h (l ∷ w) ow = ap odd (rest_same a L M h (after l L) (after l M) (λ u ou. h (l ∷ u) (ow.0, ou)) w ow.1)
