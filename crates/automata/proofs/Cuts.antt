-- Each number of cuts counts what it should: pairs of words for the concatenation, lists of words for the star.
use mathlib.Core.Path.{◌≡◌, refl, sym, ap, ap₂, subst, ◌∙◌}
use mathlib.Core.Bool.{true, false, ◌&&◌, cond, false≢true}
use mathlib.Core.Logic.{◌⊎◌, inl, inr}
use mathlib.Core.List.{List, [], ◌∷◌, ◌++◌}
use Prim.Native.Nat.{ℕ, zero, suc, ◌+◌}
use native.Mathlib.Omega.{arith}
use lib.ListN.{length, take, drop}
use Rattle.automata.specs.Automaton.{sum_below, odd}
use Rattle.automata.specs.Language.{Language}
use Rattle.automata.specs.Count.{Count}
use Rattle.automata.specs.Cuts.{after, Cut, cut_count, concatenation, join_all, AllIn, Pieces, rest_count, star_count, star}
use Rattle.automata.proofs.Span.{and_parts}
use Rattle.automata.proofs.Count.{count_unique, count_same, count_one, count_when, count_both, count_image}

-- ---- concatenation

sum_first : (k : ℕ) (f : ℕ → ℕ) → sum_below (suc k) f ≡ f 0 + sum_below k (λ i. f (suc i))
sum_first zero f = omega arith
sum_first (suc k) f = omega (arith, sum_first k f)

pub cuts_nil : (K L : Language) → cut_count K L [] ≡ cond (K [] && L []) 1 0
cuts_nil K L = omega arith

-- A word is cut before its first letter, or that letter begins the first part.
pub cuts_cons : (K L : Language) (l : ℕ) (w : List ℕ) → cut_count K L (l ∷ w) ≡ cond (K [] && L (l ∷ w)) 1 0 + cut_count (after l K) L w
cuts_cons K L l w = sum_first (suc (length w)) (λ i. cond (K (take i (l ∷ w)) && L (drop i (l ∷ w))) 1 0)

nil_parts : (u v : List ℕ) → u ++ v ≡ [] → (u ≡ []) × (v ≡ [])
nil_parts [] v e = (refl, e)
nil_parts (x ∷ u) v e = let z : ◌≡◌ {A = ℕ} 0 1 = cc in absurd (omega arith)

-- Two cuts that the same letter is put in front of.
behind_same : {Y : Type 0} (l : ℕ) (b d : List ℕ × Y) → ◌≡◌ {A = List ℕ × Y} (l ∷ b.0, b.1) (l ∷ d.0, d.1) → b ≡ d
behind_same l b d e = ap₂ (λ u v. (u, v)) (tails b.0 d.0 (ap (λ c. c.0) e)) (ap (λ c. c.1) e)
  where
    tails : (u v : List ℕ) → l ∷ u ≡ l ∷ v → u ≡ v
    tails u v f = cc

-- The cut before the first letter, and the cuts after it.
abbrev Front : Language → Language → List ℕ → List ℕ × List ℕ → Type 0
Front K L w c = (K [] && L w ≡ true) × (c ≡ ([], w))

abbrev Further : Language → Language → ℕ → List ℕ → List ℕ × List ℕ → Type 0
Further K L l w c = (b : List ℕ × List ℕ) × (c ≡ (l ∷ b.0, b.1)) × Cut (after l K) L w b

front_count : (K L : Language) (w : List ℕ) → Count (Front K L w) (cond (K [] && L w) 1 0)
front_count K L w = count_when (K [] && L w) (count_one ([], w) refl (λ c e. e))

front_cut : (K L : Language) (w : List ℕ) (c : List ℕ × List ℕ) → Front K L w c → Cut K L w c
front_cut K L w c h = let t = and_parts (K []) (L w) h.0 in subst (Cut K L w) (sym h.1) (refl, t.0, t.1)

further_cut : (K L : Language) (l : ℕ) (w : List ℕ) (c : List ℕ × List ℕ) → Further K L l w c → Cut K L (l ∷ w) c
further_cut K L l w c h = subst (Cut K L (l ∷ w)) (sym h.1) (ap (λ u. l ∷ u) h.2.0, h.2.1, h.2.2)

further_count : (K L : Language) (l : ℕ) (w : List ℕ) (n : ℕ) → Count (Cut (after l K) L w) n → Count (Further K L l w) n
further_count K L l w n c = count_image (λ b. (l ∷ b.0, b.1)) (behind_same l) (λ b h. (b, refl, h)) (λ c h. h) c

cut_cases : (K L : Language) (l : ℕ) (w u v : List ℕ) → Cut K L (l ∷ w) (u, v) → Front K L (l ∷ w) (u, v) ⊎ Further K L l w (u, v)
cut_cases K L l w [] v h = inl (ap₂ ◌&&◌ h.1 (ap L (sym h.0) ∙ h.2), ap (λ x. ([], x)) h.0)
cut_cases K L l w (x ∷ u) v h =
    let e : x ≡ l = cc in
    let f : u ++ v ≡ w = cc in
    inr ((u, v), ap (λ y. (y ∷ u, v)) e, (f, subst (λ y. K (y ∷ u) ≡ true) e h.1, h.2))

cut_apart : (K L : Language) (l : ℕ) (w : List ℕ) (c : List ℕ × List ℕ) → Front K L (l ∷ w) c → Further K L l w c → ⊥
cut_apart K L l w c p q =
    let e : ◌≡◌ {A = List ℕ} [] (l ∷ q.0.0) = ap (λ c. c.0) (sym p.1 ∙ q.1) in
    let z : ◌≡◌ {A = ℕ} 0 1 = cc in
    omega arith

-- The number of cuts of a word is the number of pairs of a word of K and a word of L that make it up.
pub cut_count_lem : (K L : Language) (w : List ℕ) → Count (Cut K L w) (cut_count K L w)
cut_count_lem K L [] = subst (Count (Cut K L [])) (sym (cuts_nil K L)) (count_same (front_cut K L []) from (front_count K L []))
  where
    from : (c : List ℕ × List ℕ) → Cut K L [] c → Front K L [] c
    from c h =
        let e = nil_parts c.0 c.1 h.0 in
        (ap₂ ◌&&◌ (ap K (sym e.0) ∙ h.1) (ap L (sym e.1) ∙ h.2), ap₂ (λ u v. (u, v)) e.0 e.1)
cut_count_lem K L (l ∷ w) = subst (Count (Cut K L (l ∷ w))) (sym (cuts_cons K L l w))
    (count_both (front_cut K L (l ∷ w)) (further_cut K L l w) (λ c h. cut_cases K L l w c.0 c.1 h) (cut_apart K L l w)
    (front_count K L (l ∷ w)) (further_count K L l w (cut_count (after l K) L w) (cut_count_lem (after l K) L w)))

-- Whatever counts the cuts: the concatenation has the words for which the number is odd.
pub concatenation_odd : (K L : Language) (w : List ℕ) (n : ℕ) → Count (Cut K L w) n → concatenation K L w ≡ odd n
concatenation_odd K L w n c = ap odd (count_unique (cut_count K L w) n (cut_count_lem K L w) c)

-- ---- star

-- The words of L that are not empty.
abbrev without_empty : Language → Language
without_empty L [] = false
without_empty L (l ∷ w) = L (l ∷ w)

-- A cut of w into the rest of a piece, in K, and words of L.
abbrev Rest : Language → Language → List ℕ → List ℕ × List (List ℕ) → Type 0
Rest K L w c = (c.0 ++ join_all c.1 ≡ w) × (K c.0 ≡ true) × AllIn (without_empty L) c.1

-- The letter goes on with the piece; or it begins another.
abbrev GoesOn : Language → Language → ℕ → List ℕ → List ℕ × List (List ℕ) → Type 0
GoesOn K L l w c = (b : List ℕ × List (List ℕ)) × (c ≡ (l ∷ b.0, b.1)) × Rest (after l K) L w b

abbrev Begins : Language → ℕ → List ℕ → List ℕ × List (List ℕ) → Type 0
Begins L l w c = (b : List ℕ × List (List ℕ)) × (c ≡ ([], (l ∷ b.0) ∷ b.1)) × Rest (after l L) L w b

module _ (L : Language) where
  rest_goes_on : (K : Language) (l : ℕ) (w : List ℕ) (c : List ℕ × List (List ℕ)) → GoesOn K L l w c → Rest K L (l ∷ w) c
  rest_goes_on K l w c h = subst (Rest K L (l ∷ w)) (sym h.1) (ap (λ u. l ∷ u) h.2.0, h.2.1, h.2.2)

  rest_begins : (K : Language) (l : ℕ) (w : List ℕ) (c : List ℕ × List (List ℕ)) → (K [] ≡ true) × Begins L l w c → Rest K L (l ∷ w) c
  rest_begins K l w c h = subst (Rest K L (l ∷ w)) (sym h.1.1) (ap (λ u. l ∷ u) h.1.2.0, h.0, (h.1.2.1, h.1.2.2))

  rest_cases : (K : Language) (l : ℕ) (w u : List ℕ) (ps : List (List ℕ)) → Rest K L (l ∷ w) (u, ps) → GoesOn K L l w (u, ps) ⊎ ((K [] ≡ true) × Begins L l w (u, ps))
  rest_cases K l w (x ∷ u) ps h =
      let e : x ≡ l = cc in
      let f : u ++ join_all ps ≡ w = cc in
      inl ((u, ps), ap (λ y. (y ∷ u, ps)) e, (f, subst (λ y. K (y ∷ u) ≡ true) e h.1, h.2))
  rest_cases K l w [] [] h = let z : ◌≡◌ {A = ℕ} 0 1 = cc in absurd (omega arith)
  rest_cases K l w [] ([] ∷ ps) h = absurd (false≢true h.2.0)
  rest_cases K l w [] ((x ∷ p) ∷ ps) h =
      let e : x ≡ l = cc in
      let f : p ++ join_all ps ≡ w = cc in
      inr (h.1, ((p, ps), ap (λ y. ([], (y ∷ p) ∷ ps)) e, (f, subst (λ y. L (y ∷ p) ≡ true) e h.2.0, h.2.1)))

  rest_apart : (K : Language) (l : ℕ) (w : List ℕ) (c : List ℕ × List (List ℕ)) → GoesOn K L l w c → (K [] ≡ true) × Begins L l w c → ⊥
  rest_apart K l w c p q =
      let e : ◌≡◌ {A = List ℕ} [] (l ∷ p.0.0) = ap (λ c. c.0) (sym q.1.1 ∙ p.1) in
      let z : ◌≡◌ {A = ℕ} 0 1 = cc in
      omega arith

  goes_on_count : (K : Language) (l : ℕ) (w : List ℕ) (n : ℕ) → Count (Rest (after l K) L w) n → Count (GoesOn K L l w) n
  goes_on_count K l w n c = count_image (λ b. (l ∷ b.0, b.1)) (behind_same l) (λ b h. (b, refl, h)) (λ c h. h) c

  cons_same : (l : ℕ) (u v : List ℕ) (ps qs : List (List ℕ)) → (l ∷ u) ∷ ps ≡ (l ∷ v) ∷ qs → (u ≡ v) × (ps ≡ qs)
  cons_same l u v ps qs f = (cc, cc)

  begins_count : (l : ℕ) (w : List ℕ) (n : ℕ) → Count (Rest (after l L) L w) n → Count (Begins L l w) n
  begins_count l w n c = count_image (λ b. ([], (l ∷ b.0) ∷ b.1)) same (λ b h. (b, refl, h)) (λ c h. h) c
    where
      same : (b d : List ℕ × List (List ℕ)) → ◌≡◌ {A = List ℕ × List (List ℕ)} ([], (l ∷ b.0) ∷ b.1) ([], (l ∷ d.0) ∷ d.1) → b ≡ d
      same b d e = let t = cons_same l b.0 d.0 b.1 d.1 (ap (λ c. c.1) e) in ap₂ (λ u v. (u, v)) t.0 t.1

  rest_nil : (K : Language) (u : List ℕ) (ps : List (List ℕ)) → Rest K L [] (u, ps) → (K [] ≡ true) × ◌≡◌ {A = List ℕ × List (List ℕ)} (u, ps) ([], [])
  rest_nil K (x ∷ u) ps h = let z : ◌≡◌ {A = ℕ} 0 1 = cc in absurd (omega arith)
  rest_nil K [] [] h = (h.1, refl)
  rest_nil K [] ([] ∷ ps) h = absurd (false≢true h.2.0)
  rest_nil K [] ((x ∷ p) ∷ ps) h = let z : ◌≡◌ {A = ℕ} 0 1 = cc in absurd (omega arith)

  rest_count_lem : (w : List ℕ) (K : Language) → Count (Rest K L w) (rest_count K L w)
  rest_count_lem [] K = count_same {P = λ c. (K [] ≡ true) × (c ≡ ([], []))} (λ c h. subst (Rest K L []) (sym h.1) (refl, h.0, tt)) (λ c h. rest_nil K c.0 c.1 h) (count_when (K []) (count_one ([], []) refl (λ c e. e)))
  rest_count_lem (l ∷ w) K =
      count_both (rest_goes_on K l w) (rest_begins K l w) (λ c h. rest_cases K l w c.0 c.1 h) (rest_apart K l w)
      (goes_on_count K l w (rest_count (after l K) L w) (rest_count_lem w (after l K)))
      (count_when (K []) (begins_count l w (rest_count (after l L) L w) (rest_count_lem w (after l L))))

  -- The number of cuts of a word is the number of lists of words of L, none of them empty, that make it up.
  star_count_nonempty : (w : List ℕ) → Count (Pieces (without_empty L) w) (star_count L w)
  star_count_nonempty [] = count_one [] (refl, tt) only
    where
      only : (ps : List (List ℕ)) → Pieces (without_empty L) [] ps → ps ≡ []
      only [] h = refl
      only ([] ∷ ps) h = absurd (false≢true h.1.0)
      only ((x ∷ p) ∷ ps) h = let z : ◌≡◌ {A = ℕ} 0 1 = cc in absurd (omega arith)
  star_count_nonempty (l ∷ w) = count_image {P = Rest (after l L) L w} (λ b. (l ∷ b.0) ∷ b.1) same (λ b h. (ap (λ u. l ∷ u) h.0, (h.1, h.2))) from (rest_count_lem w (after l L))
    where
      same : (b d : List ℕ × List (List ℕ)) → (l ∷ b.0) ∷ b.1 ≡ (l ∷ d.0) ∷ d.1 → b ≡ d
      same b d e = let t = cons_same l b.0 d.0 b.1 d.1 e in ap₂ (λ u v. (u, v)) t.0 t.1

      from : (ps : List (List ℕ)) → Pieces (without_empty L) (l ∷ w) ps → (b : List ℕ × List (List ℕ)) × (ps ≡ (l ∷ b.0) ∷ b.1) × Rest (after l L) L w b
      from [] h = let z : ◌≡◌ {A = ℕ} 0 1 = cc in absurd (omega arith)
      from ([] ∷ ps) h = absurd (false≢true h.1.0)
      from ((x ∷ p) ∷ ps) h =
          let e : x ≡ l = cc in
          let f : p ++ join_all ps ≡ w = cc in
          ((p, ps), ap (λ y. (y ∷ p) ∷ ps) e, (f, subst (λ y. L (y ∷ p) ≡ true) e h.1.0, h.1.1))

  -- Where L lacks the empty word, it is the number of lists of words of L that make up the word.
  pub star_count_lem : L [] ≡ false → (w : List ℕ) → Count (Pieces L w) (star_count L w)
  star_count_lem e w = count_same (λ ps h. (h.0, into ps h.1)) (λ ps h. (h.0, from ps h.1)) (star_count_nonempty w)
    where
      into : (ps : List (List ℕ)) → AllIn (without_empty L) ps → AllIn L ps
      into [] h = tt
      into ([] ∷ ps) h = absurd (false≢true h.0)
      into ((x ∷ p) ∷ ps) h = (h.0, into ps h.1)

      from : (ps : List (List ℕ)) → AllIn L ps → AllIn (without_empty L) ps
      from [] h = tt
      from ([] ∷ ps) h = absurd (false≢true (sym e ∙ h.0))
      from ((x ∷ p) ∷ ps) h = (h.0, from ps h.1)

  -- Whatever counts the cuts.
  pub star_odd : L [] ≡ false → (w : List ℕ) (n : ℕ) → Count (Pieces L w) n → star L w ≡ odd n
  star_odd e w n c = ap odd (count_unique (star_count L w) n (star_count_lem e w) c)
