-- The automata that the operations build in tables accept the words of the result.
use mathlib.Core.Path.{◌≡◌, refl, sym, ap, subst, ◌∙◌}
use mathlib.Core.List.{List}
use Prim.Native.Nat.{ℕ, ◌+◌, ◌*◌, ◌^◌, ◌<◌, ◌≤◌}
use native.Mathlib.Omega.{arith}
use lib.Bits.{bit_xor}
use Rattle.automata.specs.Xor.{◌⊕◌}
use Rattle.automata.specs.Mask.{bit_of}
use Rattle.automata.specs.Automaton.{Automaton, accepts}
use Rattle.automata.specs.Language.{Language, Same, symmetric_difference, complement, reversal}
use Rattle.automata.specs.Minimal.{SameBits}
use Rattle.automata.specs.Operations.{sum_of, all_words, mirror_of}
use Rattle.automata.proofs.Minimal.{bits_language}
use Rattle.automata.proofs.Operations.{accepts_sum, accepts_complement, accepts_mirror}
use Rattle.rows.specs.declared.Machine.{Machine}
use Rattle.rows.specs.Row.{width, mask}
use Rattle.rows.specs.Table.{blocks, at, stored}
use Rattle.rows.specs.Beside.{beside}
use Rattle.rows.specs.Machine.{auto, automaton_in, Bounded, Valid}
use Rattle.rows.proofs.BitLaws.{bit_one}
use Rattle.transpose.specs.Transposed.{Transposed}
use Rattle.minimisation.proofs.MinimiseLaws.{transposed_bounded, transposed_bits}
use Rattle.direct_sum.specs.Filled.{Filled}
use Rattle.direct_sum.proofs.Filling.{filling_start, filling_step, filling_end}
use Rattle.direct_sum.proofs.SumLaws.{sum_bounded, sum_bits}
use Rattle.record.specs.Record.{letters_of, automaton_of}
use Rattle.record.specs.Held.{Holds}
use Rattle.results.specs.Built.{Built}
use Rattle.results.proofs.BuiltLaws.{built, built_same, held_words_lem}

-- ---- sum

module _ (t u s : List ℕ) (g h : Machine) (ok : Valid t g) (ok' : Bounded g.letters u h.states (mask h.initial) (mask h.finals))
    (S : Filled g.letters (g.states + h.states) (beside (at t) (at u) g.states) s) (small : g.states + h.states ≤ width) where
  pub sum_built : (r : Machine) → r.letters ≡ g.letters → r.states ≡ g.states + h.states
      → mask r.initial ≡ bit_xor (mask g.initial) (mask h.initial * 2 ^ g.states) → mask r.finals ≡ bit_xor (mask g.finals) (mask h.finals * 2 ^ g.states)
      → Built g.letters (symmetric_difference (accepts (automaton_in t g)) (accepts (automaton_in u h))) s r
  sum_built r el es ei ef =
      let n = g.states in
      let k = h.states in
      let x = bit_xor (mask g.initial) (mask h.initial * 2 ^ g.states) in
      let y = bit_xor (mask g.finals) (mask h.finals * 2 ^ g.states) in
      built g.letters (symmetric_difference (accepts (automaton_in t g)) (accepts (automaton_in u h))) s r (n + k) x y el es ei ef
      (sum_bounded g.letters t n (mask g.initial) (mask g.finals) u k (mask h.initial) (mask h.finals) ok ok' s S small)
      (λ w ow. sym (accepts_sum (automaton_in t g) (automaton_in u h) w)
      ∙ sym (bits_language g.letters (auto s (n + k) x y) (sum_of (automaton_in t g) (automaton_in u h))
      (sum_bits g.letters t n (mask g.initial) (mask g.finals) u k (mask h.initial) (mask h.finals) ok ok' s S) w ow))

-- ---- records

-- The operation on the automata of two tables is that on the records that they hold.
pub join_held : (op : Language → Language → Language) → ((a : ℕ) (K M L N : Language) → Same a K M → Same a L N → Same a (op K L) (op M N)) → (bs cs t u s : List ℕ) (g h r : Machine) → letters_of bs ≡ letters_of cs → Holds bs t g → Holds cs u h
    → Built g.letters (op (accepts (automaton_in t g)) (accepts (automaton_in u h))) s r → Built (letters_of bs) (op (accepts (automaton_of bs)) (accepts (automaton_of cs))) s r
join_held op same bs cs t u s g h r e G H B =
    built_same g.letters (letters_of bs) (op (accepts (automaton_in t g)) (accepts (automaton_in u h))) (op (accepts (automaton_of bs)) (accepts (automaton_of cs))) s r G.letters
    (same (letters_of bs) (accepts (automaton_of bs)) (accepts (automaton_in t g)) (accepts (automaton_of cs)) (accepts (automaton_in u h)) (held_words_lem bs t g G)
    (subst (λ a. Same a (accepts (automaton_of cs)) (accepts (automaton_in u h))) (sym e) (held_words_lem cs u h H))) B

pub build_held : (op : Language → Language) → ((a : ℕ) (L K : Language) → Same a L K → Same a (op L) (op K)) → (bs t s : List ℕ) (g r : Machine) → Holds bs t g → Built g.letters (op (accepts (automaton_in t g))) s r
    → Built (letters_of bs) (op (accepts (automaton_of bs))) s r
build_held op same bs t s g r G B =
    built_same g.letters (letters_of bs) (op (accepts (automaton_in t g))) (op (accepts (automaton_of bs))) s r G.letters
    (same (letters_of bs) (accepts (automaton_of bs)) (accepts (automaton_in t g)) (held_words_lem bs t g G)) B

-- ---- complement

-- One more block of the table that holds the automaton of every word.
pub all_step : (l x : ℕ) (s s' : List ℕ) → l < blocks → x ≡ 1 → s' ≡ stored s l 0 x → Filled l 1 (λ l i. 1) s → Filled (l + 1) 1 (λ l i. 1) s'
all_step l x s s' h e q F =
    filling_end l 1 (λ l i. 1) s' (filling_step 0 l 1 (λ l i. 1) s s' x (omega arith) (omega arith) h e q (filling_start l 1 (λ l i. 1) s F))

pub all_bounded : (a : ℕ) (u : List ℕ) → a ≤ blocks → Filled a 1 (λ l i. 1) u → Bounded a u 1 1 1
all_bounded a u h F = record {
  states = omega arith;
  letters = h;
  size = F.size;
  initial = omega arith;
  finals = omega arith;
  rows = λ l k p q. let e = F.rows l k p q in omega arith;
}

all_bits : (a : ℕ) (u : List ℕ) → Filled a 1 (λ l i. 1) u → SameBits a (auto u 1 1 1) all_words
all_bits a u F = record {
  states = refl;
  initial = bit_one;
  final = bit_one;
  step = λ l i j hl hi hj. ap (λ v. bit_of v j) (F.rows l i hl hi) ∙ bit_one j hj;
}

pub complement_built : (t u s : List ℕ) (g r : Machine) (x : ℕ) → x ≡ 1 → Filled g.letters 1 (λ l i. 1) u → Built g.letters (symmetric_difference (accepts (automaton_in t g)) (accepts (auto u 1 x x))) s r
    → Built g.letters (complement (accepts (automaton_in t g))) s r
complement_built t u s g r x e F B =
    let A : Automaton = automaton_in t g in
    built_same g.letters g.letters (symmetric_difference (accepts A) (accepts (auto u 1 1 1))) (complement (accepts A)) s r refl
    (λ w ow. sym (accepts_complement A w) ∙ accepts_sum A all_words w
    ∙ ap (λ b. accepts A w ⊕ b) (sym (bits_language g.letters (auto u 1 1 1) all_words (all_bits g.letters u F) w ow)))
    (subst (λ y. Built g.letters (symmetric_difference (accepts A) (accepts (auto u 1 y y))) s r) e B)

-- ---- mirror

pub mirror_built : (t s : List ℕ) (g r : Machine) → Valid t g → Transposed g.letters g.states t s
    → r.letters ≡ g.letters → r.states ≡ g.states → mask r.initial ≡ mask g.finals → mask r.finals ≡ mask g.initial
    → Built g.letters (reversal (accepts (automaton_in t g))) s r
mirror_built t s g r ok T el es ei ef =
    let n = g.states in
    let i = mask g.initial in
    let f = mask g.finals in
    built g.letters (reversal (accepts (automaton_in t g))) s r n f i el es ei ef (transposed_bounded g.letters n i f t s ok T)
    (λ w ow. sym (accepts_mirror (automaton_in t g) w) ∙ sym (bits_language g.letters (auto s n f i) (mirror_of (automaton_in t g)) (transposed_bits g.letters n i f t s T) w ow))
