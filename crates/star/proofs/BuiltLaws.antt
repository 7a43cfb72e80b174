-- The automaton that is built in a table accepts the star.
use mathlib.Core.Path.{◌≡◌, sym, subst, ◌∙◌}
use mathlib.Core.List.{List}
use Prim.Native.Nat.{ℕ, ◌+◌, ◌^◌, ◌<◌, ◌≤◌}
use native.Mathlib.Nat.{one-mul}
use native.Mathlib.Omega.{arith}
use lib.Bits.{bit_xor}
use Rattle.automata.specs.Automaton.{accepts}
use Rattle.automata.specs.Cuts.{star}
use Rattle.automata.specs.Minimal.{SameBits}
use Rattle.automata.specs.Operations.{star_of}
use Rattle.automata.proofs.Minimal.{bits_language}
use Rattle.automata.proofs.Star.{star_same}
use Rattle.automata.proofs.StarOf.{accepts_star}
use Rattle.rows.specs.declared.Machine.{Machine}
use Rattle.rows.specs.Row.{width, mask}
use Rattle.rows.specs.Table.{at}
use Rattle.rows.specs.Machine.{auto, automaton_in, Bounded, Valid}
use Rattle.rows.proofs.DirectSum.{pair_lt}
use Rattle.rows.proofs.BesideLaws.{shl_below}
use Rattle.direct_sum.specs.Filled.{Filled}
use Rattle.direct_sum.proofs.Filling.{filled_bits}
use Rattle.record.specs.Record.{letters_of, automaton_of}
use Rattle.record.specs.Held.{Holds}
use Rattle.results.specs.Built.{Built}
use Rattle.results.proofs.BuiltLaws.{built, built_same, held_words_lem}
use Rattle.star.specs.Renewed.{star_rows}
use Rattle.star.proofs.RenewedLaws.{star_lt, star_bits}

module _ (a : ℕ) (t s : List ℕ) (n i f : ℕ) (ok : Bounded a t n i f) (S : Filled a (n + 1) (star_rows (at t) n i f) s) where
  star_bounded : n + 1 ≤ width → Bounded a s (n + 1) (2 ^ n) (bit_xor f (2 ^ n))
  star_bounded h = record {
    states = h;
    letters = ok.letters;
    size = S.size;
    initial = subst (λ x. x < 2 ^ (n + 1)) (one-mul (2 ^ n)) (shl_below n 1 1 (omega arith));
    finals = subst (λ x. bit_xor f x < 2 ^ (n + 1)) (one-mul (2 ^ n)) (pair_lt n 1 f 1 ok.finals (omega arith));
    rows = λ l k p q. rw (S.rows l k p q) (star_lt a (at t) n i f ok.rows l k p);
  }

  star_same_bits : SameBits a (auto s (n + 1) (2 ^ n) (bit_xor f (2 ^ n))) (star_of (auto t n i f))
  star_same_bits = filled_bits a (n + 1) (star_rows (at t) n i f) s (2 ^ n) (bit_xor f (2 ^ n)) (star_of (auto t n i f)) S (star_bits a (at t) n i f ok.rows ok.finals)

pub star_built : (t s : List ℕ) (g : Machine) → Valid t g → g.states < width → Filled g.letters (g.states + 1) (star_rows (at t) g.states (mask g.initial) (mask g.finals)) s
    → (r : Machine) → r.letters ≡ g.letters → r.states ≡ g.states + 1 → mask r.initial ≡ 2 ^ g.states → mask r.finals ≡ bit_xor (mask g.finals) (2 ^ g.states)
    → Built g.letters (star (accepts (automaton_in t g))) s r
star_built t s g ok small S r el es ei ef =
    let a = g.letters in
    let n = g.states in
    let i = mask g.initial in
    let f = mask g.finals in
    built a (star (accepts (automaton_in t g))) s r (n + 1) (2 ^ n) (bit_xor f (2 ^ n)) el es ei ef (star_bounded a t s n i f ok S (omega (arith, small)))
    (λ w ow. sym (accepts_star (automaton_in t g) w) ∙ sym (bits_language a (auto s (n + 1) (2 ^ n) (bit_xor f (2 ^ n))) (star_of (automaton_in t g)) (star_same_bits a t s n i f ok S) w ow))

-- The same of the record that the table holds.
pub star_held : (bs t s : List ℕ) (g r : Machine) → Holds bs t g → Built g.letters (star (accepts (automaton_in t g))) s r → Built (letters_of bs) (star (accepts (automaton_of bs))) s r
star_held bs t s g r G B =
    built_same g.letters (letters_of bs) (star (accepts (automaton_in t g))) (star (accepts (automaton_of bs))) s r G.letters
    (star_same (letters_of bs) (accepts (automaton_of bs)) (accepts (automaton_in t g)) (held_words_lem bs t g G)) B
