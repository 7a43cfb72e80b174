-- When an automaton built in a table has the words of a language: by the numbers of its machine, by another language, and by a record.
use mathlib.Core.Path.{◌≡◌, sym, subst, ◌∙◌}
use mathlib.Core.List.{List}
use Prim.Native.Nat.{ℕ}
use Rattle.automata.specs.Automaton.{accepts}
use Rattle.automata.specs.Language.{Language, Same}
use Rattle.automata.proofs.Minimal.{bits_language}
use Rattle.rows.specs.declared.Machine.{Machine}
use Rattle.rows.specs.Row.{mask}
use Rattle.rows.specs.Machine.{auto, automaton_in, Bounded}
use Rattle.record.specs.Record.{letters_of, automaton_of}
use Rattle.record.specs.Held.{Holds}
use Rattle.record.proofs.Held.{bits_held}
use Rattle.results.specs.Built.{Built}

pub built : (a : ℕ) (L : Language) (t : List ℕ) (m : Machine) (n i f : ℕ) → m.letters ≡ a → m.states ≡ n → mask m.initial ≡ i → mask m.finals ≡ f
    → Bounded a t n i f → Same a L (accepts (auto t n i f)) → Built a L t m
built a L t m n i f el es ei ef ok same = record {
  letters = el;
  valid = subst (λ x. Bounded x t m.states (mask m.initial) (mask m.finals)) (sym el) (fix (λ n i f. Bounded a t n i f) ok);
  words = fix (λ n i f. Same a L (accepts (auto t n i f))) same;
}
  where
    fix : (P : ℕ → ℕ → ℕ → Type 0) → P n i f → P m.states (mask m.initial) (mask m.finals)
    fix P x = subst (λ k. P k (mask m.initial) (mask m.finals)) (sym es) (subst (λ k. P n k (mask m.finals)) (sym ei) (subst (λ k. P n i k) (sym ef) x))

pub built_same : (a b : ℕ) (L K : Language) (t : List ℕ) (m : Machine) → a ≡ b → Same b K L → Built a L t m → Built b K t m
built_same a b L K t m e same B = record { letters = B.letters ∙ e; valid = B.valid; words = λ w ow. same w ow ∙ subst (λ x. Same x L (accepts (automaton_in t m))) e B.words w ow }

-- What a record's table accepts.
pub held_words_lem : (bs t : List ℕ) (m : Machine) → Holds bs t m → Same (letters_of bs) (accepts (automaton_of bs)) (accepts (automaton_in t m))
held_words_lem bs t m H w ow = sym (bits_language (letters_of bs) (automaton_in t m) (automaton_of bs) (bits_held bs t m H) w ow)
