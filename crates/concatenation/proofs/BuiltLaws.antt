-- The automaton that is built in a table accepts the concatenation.
use mathlib.Core.Path.{◌≡◌, sym, ap, subst, ◌∙◌}
use mathlib.Core.List.{List}
use Prim.Native.Nat.{ℕ, ◌+◌, ◌-◌, ◌*◌, ◌^◌, ◌<◌, ◌≤◌}
use native.Mathlib.Decide.{dec_lt}
use native.Mathlib.Omega.{arith}
use Rattle.automata.specs.Automaton.{accepts}
use Rattle.automata.specs.Cuts.{concatenation}
use Rattle.automata.specs.Minimal.{SameBits}
use Rattle.automata.specs.Operations.{concatenation_of}
use Rattle.automata.proofs.Minimal.{bits_language}
use Rattle.automata.proofs.ConcatenationOf.{accepts_concatenation}
use Rattle.rows.specs.declared.Machine.{Machine}
use Rattle.rows.specs.Row.{width, mask}
use Rattle.rows.specs.Table.{at}
use Rattle.rows.specs.Beside.{beside}
use Rattle.rows.specs.Machine.{auto, automaton_in, Bounded, Valid}
use Rattle.rows.proofs.BesideLaws.{if_low, if_high, shl_below}
use Rattle.direct_sum.specs.Filled.{Filled}
use Rattle.direct_sum.proofs.Filling.{filled_bits}
use Rattle.results.specs.Built.{Built}
use Rattle.results.proofs.BuiltLaws.{built}
use Rattle.concatenation.specs.Opened.{opened, opened_rows}
use Rattle.concatenation.proofs.OpenedLaws.{opened_lt, rows_lt, concatenation_bits}

-- The first, in t, has n states and the final column f; v has its rows opened; s has beside them the rows of the second, in u, with m
-- states and the initial row start.
module _ (a : ℕ) (t v u s : List ℕ) (n f m start : ℕ) (D : Filled a n (opened_rows n f (start * 2 ^ n) (at t)) v) (S : Filled a (n + m) (beside (at v) (at u) n) s) where
  row_is : (l k : ℕ) → l < a → k < n + m → at s l k ≡ beside (opened_rows n f (start * 2 ^ n) (at t)) (at u) n l k
  row_is l k p q = S.rows l k p q ∙ go (dec_lt k n)
    where
      go : Dec (k < n) → beside (at v) (at u) n l k ≡ beside (opened_rows n f (start * 2 ^ n) (at t)) (at u) n l k
      go (yes g) =
          if_low k n (at v l k) (at u l (k - n) * 2 ^ n) g ∙ D.rows l k p g
          ∙ sym (if_low k n (opened_rows n f (start * 2 ^ n) (at t) l k) (at u l (k - n) * 2 ^ n) g)
      go (no g) =
          if_high k n (at v l k) (at u l (k - n) * 2 ^ n) (omega arith)
          ∙ sym (if_high k n (opened_rows n f (start * 2 ^ n) (at t) l k) (at u l (k - n) * 2 ^ n) (omega arith))

  module _ (i f' : ℕ) (ok : Bounded a t n i f) (ok' : Bounded a u m start f') where
    concatenation_bounded : n + m ≤ width → Bounded a s (n + m) (opened n f (start * 2 ^ n) i) (f' * 2 ^ n)
    concatenation_bounded h = record {
      states = h;
      letters = ok.letters;
      size = S.size;
      initial = opened_lt n f start m i ok.initial ok'.initial;
      finals = shl_below n m f' ok'.finals;
      rows = λ l k p q. rw (row_is l k p q) (rows_lt a (at t) n f (at u) m start ok.rows ok'.initial ok'.rows l k p q);
    }

    concatenation_same_bits : SameBits a (auto s (n + m) (opened n f (start * 2 ^ n) i) (f' * 2 ^ n)) (concatenation_of (auto t n i f) (auto u m start f'))
    concatenation_same_bits = filled_bits a (n + m) (beside (opened_rows n f (start * 2 ^ n) (at t)) (at u) n) s (opened n f (start * 2 ^ n) i) (f' * 2 ^ n) (concatenation_of (auto t n i f) (auto u m start f'))
        (record { rows = row_is; size = S.size }) (concatenation_bits a (at t) n f (at u) m start ok.rows i f' ok.initial)

module _ (t v u s : List ℕ) (g h : Machine) (ok : Valid t g) (ok' : Bounded g.letters u h.states (mask h.initial) (mask h.finals)) (x : ℕ) (ex : x ≡ mask h.initial * 2 ^ g.states)
    (D : Filled g.letters g.states (opened_rows g.states (mask g.finals) x (at t)) v)
    (S : Filled g.letters (g.states + h.states) (beside (at v) (at u) g.states) s) (small : g.states + h.states ≤ width) where
  pub concatenation_built : (r : Machine) → r.letters ≡ g.letters → r.states ≡ g.states + h.states
      → mask r.initial ≡ opened g.states (mask g.finals) x (mask g.initial) → mask r.finals ≡ mask h.finals * 2 ^ g.states
      → Built g.letters (concatenation (accepts (automaton_in t g)) (accepts (automaton_in u h))) s r
  concatenation_built r el es ei ef =
      let a = g.letters in
      let n = g.states in
      let i = mask g.initial in
      let f = mask g.finals in
      let m = h.states in
      let start = mask h.initial in
      let f' = mask h.finals in
      let D' = subst (λ y. Filled a n (opened_rows n f y (at t)) v) ex D in
      built a (concatenation (accepts (automaton_in t g)) (accepts (automaton_in u h))) s r (n + m) (opened n f (start * 2 ^ n) i) (f' * 2 ^ n) el es (ei ∙ ap (λ y. opened n f y i) ex) ef
      (concatenation_bounded a t v u s n f m start D' S i f' ok ok' small)
      (λ w ow. sym (accepts_concatenation (automaton_in t g) (automaton_in u h) w)
      ∙ sym (bits_language a (auto s (n + m) (opened n f (start * 2 ^ n) i) (f' * 2 ^ n)) (concatenation_of (automaton_in t g) (automaton_in u h)) (concatenation_same_bits a t v u s n f m start D' S i f' ok ok') w ow))
