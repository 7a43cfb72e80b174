-- The concatenation of languages: associative, with the language of the empty word as unit, and distributive over the symmetric difference.
use mathlib.Core.Path.{◌≡◌, refl, sym, ap, ap₂, ◌∙◌}
use mathlib.Core.Bool.{Bool, false, ◌&&◌, cond, and-true, and-false, and_assoc}
use mathlib.Core.List.{List, [], ◌∷◌}
use Prim.Native.Nat.{ℕ, suc}
use lib.ListN.{length, take, drop}
use Rattle.automata.specs.Xor.{◌⊕◌, xor_below}
use Rattle.automata.specs.Automaton.{odd}
use Rattle.automata.specs.Language.{Language, Same, symmetric_difference}
use Rattle.automata.specs.Cuts.{empty_word, after, cut_count, concatenation}
use Rattle.automata.proofs.Xor.{xor_cong, xor_none, xor_false, xor_assoc, xor_scale, xor_scale_right, xor_swap, xor_coef, and_xor, odd_add, odd_sum, odd_when}
use Rattle.automata.proofs.Shortlex.{over_take, over_drop}
use Rattle.automata.proofs.Cuts.{cuts_nil, cuts_cons}

odd_one : (b : Bool) → odd (cond b 1 0) ≡ b
odd_one b = odd_when b 1 ∙ and-true b

-- ---- the concatenation letter by letter, and place by place

pub concatenation_nil : (K L : Language) → concatenation K L [] ≡ K [] && L []
concatenation_nil K L = ap odd (cuts_nil K L) ∙ odd_one (K [] && L [])

pub concatenation_cons : (K L : Language) (l : ℕ) (w : List ℕ) → concatenation K L (l ∷ w) ≡ (K [] && L (l ∷ w)) ⊕ concatenation (after l K) L w
concatenation_cons K L l w =
    ap odd (cuts_cons K L l w)
    ∙ odd_add (cond (K [] && L (l ∷ w)) 1 0) (cut_count (after l K) L w)
    ∙ ap (λ b. b ⊕ concatenation (after l K) L w) (odd_one (K [] && L (l ∷ w)))

pub concatenation_places : (K L : Language) (w : List ℕ) → concatenation K L w ≡ xor_below (suc (length w)) (λ i. K (take i w) && L (drop i w))
concatenation_places K L w = odd_sum (suc (length w)) (λ i. cond (K (take i w) && L (drop i w)) 1 0) ∙ xor_cong (suc (length w)) (λ i p. odd_one (K (take i w) && L (drop i w)))

-- ---- what the concatenation reads

-- The concatenation reads its first language at the beginnings of a word and its second at the ends.
pub concatenation_reads : (K M L N : Language) (w : List ℕ) → ((i : ℕ) → K (take i w) ≡ M (take i w)) → ((i : ℕ) → L (drop i w) ≡ N (drop i w)) → concatenation K L w ≡ concatenation M N w
concatenation_reads K M L N w h g = concatenation_places K L w ∙ xor_cong (suc (length w)) (λ i p. ap₂ ◌&&◌ (h i) (g i)) ∙ sym (concatenation_places M N w)

pub concatenation_left : (K M L : Language) (w : List ℕ) → ((u : List ℕ) → K u ≡ M u) → concatenation K L w ≡ concatenation M L w
concatenation_left K M L w h = concatenation_reads K M L L w (λ i. h (take i w)) (λ i. refl)

-- Languages with the same words have products with the same words.
pub concatenation_same : (a : ℕ) (K M L N : Language) → Same a K M → Same a L N → Same a (concatenation K L) (concatenation M N)
concatenation_same a K M L N h g w ow = concatenation_reads K M L N w (λ i. h (take i w) (over_take a i w ow)) (λ i. g (drop i w) (over_drop a i w ow))

-- ---- linearity

-- The concatenation is linear in its first language.
pub concatenation_linear : (n : ℕ) (c : ℕ → Bool) (K : ℕ → Language) (L : Language) (w : List ℕ) → concatenation (λ u. xor_below n (λ k. c k && K k u)) L w ≡ xor_below n (λ k. c k && concatenation (K k) L w)
concatenation_linear n c K L w =
    concatenation_places (λ u. xor_below n (λ k. c k && K k u)) L w
    ∙ xor_cong (suc (length w)) (λ i p. sym (xor_scale_right n (λ k. c k && K k (take i w)) (L (drop i w))) ∙ xor_cong n (λ k q. and_assoc (c k) (K k (take i w)) (L (drop i w))))
    ∙ xor_swap (suc (length w)) n (λ i k. c k && (K k (take i w) && L (drop i w)))
    ∙ xor_cong n (λ k q. xor_scale (suc (length w)) (c k) (λ i. K k (take i w) && L (drop i w)) ∙ ap (λ b. c k && b) (sym (concatenation_places (K k) L w)))

pub concatenation_scale : (b : Bool) (K L : Language) (w : List ℕ) → concatenation (λ u. b && K u) L w ≡ b && concatenation K L w
concatenation_scale b K L w =
    concatenation_places (λ u. b && K u) L w
    ∙ xor_cong (suc (length w)) (λ i p. and_assoc b (K (take i w)) (L (drop i w)))
    ∙ xor_scale (suc (length w)) b (λ i. K (take i w) && L (drop i w))
    ∙ ap (λ x. b && x) (sym (concatenation_places K L w))

-- The concatenation with the empty language is empty.
concatenation_none : (L : Language) (w : List ℕ) → concatenation (λ u. false) L w ≡ false
concatenation_none L w = concatenation_places (λ u. false) L w ∙ xor_none (suc (length w)) (λ i p. refl)

-- The concatenation distributes over the symmetric difference of its first languages.
pub concatenation_sum_left : (K M L : Language) (w : List ℕ) → concatenation (symmetric_difference K M) L w ≡ symmetric_difference (concatenation K L) (concatenation M L) w
concatenation_sum_left K M L w =
    concatenation_places (symmetric_difference K M) L w
    ∙ xor_coef (suc (length w)) (λ i. K (take i w)) (λ i. M (take i w)) (λ i. L (drop i w))
    ∙ ap₂ ◌⊕◌ (sym (concatenation_places K L w)) (sym (concatenation_places M L w))

-- ---- unit

pub concatenation_unit_left : (L : Language) (w : List ℕ) → concatenation empty_word L w ≡ L w
concatenation_unit_left L [] = concatenation_nil empty_word L
concatenation_unit_left L (l ∷ w) = concatenation_cons empty_word L l w ∙ ap (λ b. L (l ∷ w) ⊕ b) (concatenation_none L w) ∙ xor_false (L (l ∷ w))

pub concatenation_unit_right : (L : Language) (w : List ℕ) → concatenation L empty_word w ≡ L w
concatenation_unit_right L [] = concatenation_nil L empty_word ∙ and-true (L [])
concatenation_unit_right L (l ∷ w) = concatenation_cons L empty_word l w ∙ ap₂ ◌⊕◌ (and-false (L [])) (concatenation_unit_right (after l L) w)

-- ---- associativity

-- What may follow a letter in a concatenation.
concatenation_after : (K L M : Language) (l : ℕ) (w : List ℕ) → concatenation (after l (concatenation K L)) M w ≡ (K [] && concatenation (after l L) M w) ⊕ concatenation (concatenation (after l K) L) M w
concatenation_after K L M l w =
    concatenation_left (after l (concatenation K L)) (λ u. (K [] && after l L u) ⊕ concatenation (after l K) L u) M w (λ u. concatenation_cons K L l u)
    ∙ concatenation_sum_left (λ u. K [] && after l L u) (concatenation (after l K) L) M w
    ∙ ap (λ b. b ⊕ concatenation (concatenation (after l K) L) M w) (concatenation_scale (K []) (after l L) M w)

pub concatenation_assoc : (K L M : Language) (w : List ℕ) → concatenation (concatenation K L) M w ≡ concatenation K (concatenation L M) w
concatenation_assoc K L M [] =
    concatenation_nil (concatenation K L) M ∙ ap (λ b. b && M []) (concatenation_nil K L) ∙ and_assoc (K []) (L []) (M [])
    ∙ ap (λ b. K [] && b) (sym (concatenation_nil L M)) ∙ sym (concatenation_nil K (concatenation L M))
concatenation_assoc K L M (l ∷ w) =
    concatenation_cons (concatenation K L) M l w
    ∙ ap₂ ◌⊕◌ (ap (λ b. b && M (l ∷ w)) (concatenation_nil K L) ∙ and_assoc (K []) (L []) (M (l ∷ w))) (concatenation_after K L M l w)
    ∙ sym (xor_assoc (K [] && (L [] && M (l ∷ w))) (K [] && concatenation (after l L) M w) (concatenation (concatenation (after l K) L) M w))
    ∙ ap₂ ◌⊕◌ (sym (and_xor (K []) (L [] && M (l ∷ w)) (concatenation (after l L) M w)) ∙ ap (λ b. K [] && b) (sym (concatenation_cons L M l w))) (concatenation_assoc (after l K) L M w)
    ∙ sym (concatenation_cons K (concatenation L M) l w)
