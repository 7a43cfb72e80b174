-- The first difference of two languages: the bounded search finds it, it is the only right answer, and it is short.
use mathlib.Core.Path.{◌≡◌, refl, sym, ap, ap₂, subst, ◌∙◌}
use mathlib.Core.Bool.{Bool, true, false, cond, false≢true}
use mathlib.Core.Logic.{◌⊎◌, inl, inr}
use mathlib.Core.List.{List, [], ◌∷◌}
use mathlib.Core.Option.{Option, none, some}
use Prim.Native.Nat.{ℕ, suc, ◌+◌, ◌<◌}
use native.Mathlib.Omega.{arith}
use lib.ListN.{length}
use Rattle.automata.specs.Xor.{◌⊕◌}
use Rattle.automata.specs.Automaton.{Automaton, accepts}
use Rattle.automata.specs.Word.{Shortlex}
use Rattle.automata.specs.Language.{Language, Same, symmetric_difference}
use Rattle.automata.specs.Dimension.{Basis}
use Rattle.automata.specs.Count.{Member}
use Rattle.automata.specs.WordList.{words_below, first_of}
use Rattle.automata.specs.MinimalOf.{minimal_of, dimension_of}
use Rattle.automata.specs.FirstDifference.{first_difference, FirstDifference, IsDifference}
use Rattle.automata.proofs.Xor.{bool_cases, xor_self, xor_zero}
use Rattle.automata.proofs.Shortlex.{shortlex_irrefl, shortlex_trans, shortlex_cases}
use Rattle.automata.proofs.Basis.{basis_free, first_is_basis}
use Rattle.automata.proofs.ShortWords.{same_by_short, difference_bound}
use Rattle.automata.proofs.WordList.{Sorted, below_sound, below_complete, below_sorted}
use Rattle.automata.proofs.Dimension.{minimal_language, minimal_states}

-- ---- the search

-- What the first word of a list at which f holds comes to.
record FirstAt (f : List ℕ → Bool) (ws : List (List ℕ)) (w : List ℕ) : Type 0 where
  member : Member w ws
  holds : f w ≡ true
  before : (u : List ℕ) → Member u ws → Shortlex u w → f u ≡ false

abbrev FirstOf : (List ℕ → Bool) → List (List ℕ) → Option (List ℕ) → Type 0
FirstOf f ws none = (u : List ℕ) → Member u ws → f u ≡ false
FirstOf f ws (some w) = FirstAt f ws w

first_of_lem : (f : List ℕ → Bool) (ws : List (List ℕ)) → Sorted ws → FirstOf f ws (first_of f ws)
first_of_lem f [] s = λ u m. absurd m
first_of_lem f (x ∷ xs) s = go (bool_cases (f x)) (first_of f xs) (first_of_lem f xs s.1)
  where
    here : FirstAt f (x ∷ xs) x → (o : Option (List ℕ)) → FirstOf f (x ∷ xs) (cond true (some x) o)
    here r o = r

    later : f x ≡ false → (o : Option (List ℕ)) → FirstOf f xs o → FirstOf f (x ∷ xs) o
    later e none r = λ u m. at u m
      where
        at : (u : List ℕ) → Member u (x ∷ xs) → f u ≡ false
        at u (inl q) = ap f q ∙ e
        at u (inr m) = r u m
    later e (some w) r = record { member = inr r.member; holds = r.holds; before = at }
      where
        at : (u : List ℕ) → Member u (x ∷ xs) → Shortlex u w → f u ≡ false
        at u (inl q) h = ap f q ∙ e
        at u (inr m) h = r.before u m h

    first : f x ≡ true → FirstAt f (x ∷ xs) x
    first e = record { member = inl refl; holds = e; before = at }
      where
        at : (u : List ℕ) → Member u (x ∷ xs) → Shortlex u x → f u ≡ false
        at u (inl q) h = absurd (shortlex_irrefl x (subst (λ y. Shortlex y x) q h))
        at u (inr m) h = absurd (shortlex_irrefl u (shortlex_trans u x u h (s.0 u m)))

    go : (f x ≡ true) ⊎ (f x ≡ false) → (o : Option (List ℕ)) → FirstOf f xs o → FirstOf f (x ∷ xs) (cond (f x) (some x) o)
    go (inl e) o r = subst (λ b. FirstOf f (x ∷ xs) (cond b (some x) o)) (sym e) (first e)
    go (inr e) o r = subst (λ b. FirstOf f (x ∷ xs) (cond b (some x) o)) (sym e) (later e o r)

-- The search bounded by the states gives the right answer over all words.
pub first_difference_lem : (a : ℕ) (A B : Automaton) → IsDifference a (accepts A) (accepts B) (first_difference a A B)
unfolding first_difference
first_difference_lem a A B = go (first_of f (words_below a k)) (first_of_lem f (words_below a k) (below_sorted a k))
  where
    k : ℕ
    k = A.states + B.states

    f : List ℕ → Bool
    f w = accepts A w ⊕ accepts B w

    short : (u w : List ℕ) → Shortlex u w → length w < k → length u < k
    short u w (inl h) p = omega arith
    short u w (inr h) p = omega arith

    go : (o : Option (List ℕ)) → FirstOf f (words_below a k) o → IsDifference a (accepts A) (accepts B) o
    go none r = same_by_short a A B (λ v ov sv. xor_zero (r v (below_complete a k v sv ov)))
    go (some w) r =
        let t = below_sound a k w r.member in
        record { over = t.1; differs = r.holds; first = λ u ou h. xor_zero (r.before u (below_complete a k u (short u w h t.0) ou) h) }

-- ---- what it is

first_unique : (a : ℕ) (L K : Language) (u w : List ℕ) → FirstDifference a L K u → FirstDifference a L K w → u ≡ w
first_unique a L K u w p q = go (shortlex_cases u w)
  where
    clash : (x y : List ℕ) → FirstDifference a L K x → FirstDifference a L K y → Shortlex x y → ⊥
    clash x y f g e = false≢true (sym (ap (λ b. b ⊕ K x) (g.first x f.over e) ∙ xor_self (K x)) ∙ f.differs)

    go : Shortlex u w ⊎ ((u ≡ w) ⊎ Shortlex w u) → u ≡ w
    go (inl e) = absurd (clash u w p q e)
    go (inr (inl e)) = e
    go (inr (inr e)) = absurd (clash w u q p e)

same_or_first : (a : ℕ) (L K : Language) (w : List ℕ) → Same a L K → FirstDifference a L K w → ⊥
same_or_first a L K w s f = false≢true (sym (ap (λ b. b ⊕ K w) (s w f.over) ∙ xor_self (K w)) ∙ f.differs)

-- A comparison has one right answer.
pub difference_unique : (a : ℕ) (L K : Language) (x y : Option (List ℕ)) → IsDifference a L K x → IsDifference a L K y → x ≡ y
difference_unique a L K none none p q = refl
difference_unique a L K none (some w) p q = absurd (same_or_first a L K w p q)
difference_unique a L K (some u) none p q = absurd (same_or_first a L K u q p)
difference_unique a L K (some u) (some w) p q = ap some (first_unique a L K u w p q)

-- It is one of the languages, not of the automata.
pub differences_same : (a : ℕ) (L K L' K' : Language) (x : Option (List ℕ)) → Same a L L' → Same a K K' → IsDifference a L K x → IsDifference a L' K' x
differences_same a L K L' K' none p q s = λ w ow. sym (p w ow) ∙ s w ow ∙ q w ow
differences_same a L K L' K' (some w) p q s = record {
  over = s.over;
  differs = ap₂ ◌⊕◌ (sym (p w s.over)) (sym (q w s.over)) ∙ s.differs;
  first = λ u ou h. sym (p u ou) ∙ s.first u ou h ∙ q u ou;
}

pub difference_same : (a : ℕ) (A B A' B' : Automaton) → Same a (accepts A) (accepts A') → Same a (accepts B) (accepts B') → first_difference a A B ≡ first_difference a A' B'
difference_same a A B A' B' p q =
    difference_unique a (accepts A') (accepts B') (first_difference a A B) (first_difference a A' B')
    (differences_same a (accepts A) (accepts B) (accepts A') (accepts B') (first_difference a A B) p q (first_difference_lem a A B)) (first_difference_lem a A' B')

-- What the function names is the first difference over all words, and where it names none the languages are the same.
pub difference_none : (a : ℕ) (A B : Automaton) → first_difference a A B ≡ none → Same a (accepts A) (accepts B)
difference_none a A B e = subst (IsDifference a (accepts A) (accepts B)) e (first_difference_lem a A B)

pub difference_some : (a : ℕ) (A B : Automaton) (w : List ℕ) → first_difference a A B ≡ some w → FirstDifference a (accepts A) (accepts B) w
difference_some a A B w e = subst (IsDifference a (accepts A) (accepts B)) e (first_difference_lem a A B)

-- And the other way round.
pub none_difference : (a : ℕ) (A B : Automaton) → Same a (accepts A) (accepts B) → first_difference a A B ≡ none
none_difference a A B s = difference_unique a (accepts A) (accepts B) (first_difference a A B) none (first_difference_lem a A B) s

pub some_difference : (a : ℕ) (A B : Automaton) (w : List ℕ) → FirstDifference a (accepts A) (accepts B) w → first_difference a A B ≡ some w
some_difference a A B w f = difference_unique a (accepts A) (accepts B) (first_difference a A B) (some w) (first_difference_lem a A B) f

-- The first difference is a basis word of the symmetric difference.
pub difference_basis : (a : ℕ) (L K : Language) (w : List ℕ) → FirstDifference a L K w → Basis a (symmetric_difference L K) w
difference_basis a L K w f = first_is_basis a (symmetric_difference L K) w f.over f.differs (λ u ou e. ap (λ b. b ⊕ K u) (f.first u ou e) ∙ xor_self (K u))

difference_length : (a : ℕ) (A B : Automaton) (w : List ℕ) → FirstDifference a (accepts A) (accepts B) w → length w < A.states + B.states
difference_length a A B w f = difference_bound a A B (suc (length w)) (basis_free a (symmetric_difference (accepts A) (accepts B)) w (difference_basis a (accepts A) (accepts B) w f))

-- The first difference is shorter than the two dimensions added.
pub difference_short : (a : ℕ) (A B : Automaton) (w : List ℕ) → first_difference a A B ≡ some w → length w < dimension_of a A + dimension_of a B
difference_short a A B w e = subst (λ n. length w < n) (ap₂ ◌+◌ (minimal_states a A) (minimal_states a B)) (difference_length a (minimal_of a A) (minimal_of a B) w (record {
  over = f.over;
  differs = ap₂ ◌⊕◌ (sym (minimal_language a A w f.over)) (sym (minimal_language a B w f.over)) ∙ f.differs;
  first = λ u ou h. sym (minimal_language a A u ou) ∙ f.first u ou h ∙ minimal_language a B u ou;
}))
  where
    f : FirstDifference a (accepts A) (accepts B) w
    f = difference_some a A B w e
