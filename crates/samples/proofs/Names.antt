-- An automaton for each language that the samples name.
use mathlib.Core.Path.{◌≡◌, refl, sym, ap, ap₂, ◌∙◌}
use mathlib.Core.Bool.{Bool, true, ◌&&◌}
use mathlib.Core.List.{List, [], ◌∷◌, ◌++◌, reverse, reverse-cons}
use Prim.Native.Nat.{ℕ, ◌≤◌}
use native.Mathlib.Omega.{arith}
use lib.Dec.{eqb, leb}
use borrow.Author.Tests.{leb-true}
use Rattle.automata.specs.Xor.{◌⊕◌}
use Rattle.automata.specs.Automaton.{Automaton, accepts}
use Rattle.automata.specs.Word.{Over}
use Rattle.automata.specs.Language.{Same}
use Rattle.automata.specs.Operations.{mirror_of}
use Rattle.automata.specs.Row.{accepts_from}
use Rattle.automata.proofs.Shortlex.{over_reverse}
use Rattle.automata.proofs.Acceptance.{from_nil, from_cons, accepts_row}
use Rattle.automata.proofs.Operations.{accepts_mirror}
use Rattle.record.specs.Record.{automaton_of}
use Rattle.catalogue.specs.Words.{ends_in_one, entry_words}
use Rattle.catalogue.specs.Entries.{last, letters_at, record_of}
use Rattle.catalogue.proofs.Records.{record_claims}
use Rattle.samples.specs.Languages.{begins_with_one, repeats, nonempty, empty_or_zero, Named, entry, beginning, star, some, at_most_zero, words_in}

-- ---- automata by name

-- One state, which each letter k leads back to.
abbrev loop : ℕ → Automaton
loop k = record { states = 1; initial = λ i. true; final = λ i. true; step = λ l i j. eqb l k }

-- Two states: every letter leads to the second, which is final; or the first leads to the second, and both are final.
abbrev second : Automaton
second = record { states = 2; initial = λ i. eqb i 0; final = λ i. eqb i 1; step = λ l i j. eqb j 1 }

abbrev once : Automaton
once = record { states = 2; initial = λ i. eqb i 0; final = λ i. true; step = λ l i j. eqb i 0 && eqb j 1 }

abbrev pub machine : Named → Automaton
machine (entry j) = automaton_of (record_of j)
machine beginning = mirror_of (automaton_of (record_of 3))
machine (star k) = loop k
machine some = second
machine at_most_zero = once

-- The letters over which it is that language's.
abbrev pub letters_in : Named → ℕ
letters_in (entry j) = letters_at j
letters_in beginning = 2
letters_in (star k) = 2
letters_in some = 1
letters_in at_most_zero = 1

-- The catalogue has an entry of that number.
abbrev pub known : Named → Bool
known (entry j) = leb j last
known beginning = true
known (star k) = true
known some = true
known at_most_zero = true

-- ---- their words

pub over_more : (a b : ℕ) → a ≤ b → (w : List ℕ) → Over a w → Over b w
over_more a b h [] o = tt
over_more a b h (l ∷ w) o = (omega (arith, o.0), over_more a b h w o.1)

ends_last : (u : List ℕ) (l : ℕ) → ends_in_one (u ++ (l ∷ [])) ≡ eqb l 1
ends_last [] l = refl
ends_last (x ∷ []) l = refl
ends_last (x ∷ y ∷ u) l = ends_last (y ∷ u) l

-- Reversed, a word ends in 1 where it began with 1.
ends_reverse : (w : List ℕ) → ends_in_one (reverse w) ≡ begins_with_one w
ends_reverse [] = refl
ends_reverse (l ∷ w) = ap ends_in_one (reverse-cons l w) ∙ ends_last (reverse w) l

loop_from : (k : ℕ) (w : List ℕ) (i : ℕ) → accepts_from (loop k) w i ≡ repeats k w
loop_from k [] i = from_nil (loop k) i
loop_from k (l ∷ w) i = from_cons (loop k) l w i ∙ ap (λ b. eqb l k && b) (loop_from k w 0)

second_from : (w : List ℕ) → accepts_from second w 1 ≡ true
second_from [] = refl
second_from (l ∷ w) = from_cons second l w 1 ∙ second_from w

second_words : (w : List ℕ) → accepts second w ≡ nonempty w
second_words [] = refl
second_words (l ∷ w) = accepts_row second (l ∷ w) ∙ ap₂ ◌⊕◌ (from_cons second l w 0 ∙ second_from w) refl

once_words : (w : List ℕ) → Over 1 w → empty_or_zero w ≡ accepts once w
once_words [] ow = refl
once_words (l ∷ []) ow =
    let e : l ≡ 0 = omega (arith, ow.0) in
    ap (λ x. eqb x 0) e
once_words (l ∷ k ∷ w) ow = refl

whole : (s : Named) → known s ≡ true → Same (letters_in s) (words_in s) (accepts (machine s))
unfolding entry_words letters_at
whole (entry j) e w ow = (record_claims j (leb-true j last e)).words w ow
whole beginning e w ow =
    sym (ends_reverse w)
    ∙ (record_claims 3 (omega arith)).words (reverse w) (over_reverse 2 w ow)
    ∙ sym (accepts_mirror (automaton_of (record_of 3)) w)
whole (star k) e w ow = sym (accepts_row (loop k) w ∙ loop_from k w 0)
whole some e w ow = sym (second_words w)
whole at_most_zero e w ow = once_words w ow

pub machine_words : (s : Named) (a : ℕ) → known s ≡ true → a ≤ letters_in s → Same a (words_in s) (accepts (machine s))
machine_words s a e h w ow = whole s e w (over_more a (letters_in s) h w ow)
