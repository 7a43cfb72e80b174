-- Two automata side by side in one table: the loops that fill it, and the bounds and the bits of the sum.
use mathlib.Core.Path.{◌≡◌, sym, ◌∙◌}
use mathlib.Core.List.{List}
use Prim.Native.Nat.{ℕ, ◌+◌, ◌*◌, ◌^◌, ◌<◌, ◌≤◌}
use native.Mathlib.Numerals.{add-one}
use native.Mathlib.Omega.{arith}
use lib.Bits.{bit_xor}
use Rattle.automata.specs.Minimal.{SameBits}
use Rattle.automata.specs.Operations.{sum_of}
use Rattle.automata.proofs.Below.{up_to}
use Rattle.rows.specs.Row.{width}
use Rattle.rows.specs.Table.{blocks, at, stored}
use Rattle.rows.specs.Beside.{beside}
use Rattle.rows.specs.Machine.{auto, Bounded}
use Rattle.rows.proofs.TableLaws.{length_stored, stored_same, stored_block, stored_row}
use Rattle.rows.proofs.DirectSum.{pair_lt, beside_lt, beside_bits}
use Rattle.direct_sum.specs.Filled.{Joined, Filled}
use Rattle.direct_sum.proofs.Filling.{filled_bits}

-- ---- one block

module _ (l n : ℕ) (u t : List ℕ) where
  pub joined_step : (j : ℕ) (s s' : List ℕ) (r : ℕ) → n + j < width → l < blocks → r ≡ at u l j * 2 ^ n → s' ≡ stored s l (n + j) r → Joined l n j u t s → Joined l n (j + 1) u t s'
  joined_step j s s' r h w hr e J = rw (e, add-one) (record {
    others = λ x i p d. stored_block s l (n + j) r x i h p (λ z. d (sym z)) ∙ J.others x i p d;
    low = λ i p. stored_row s l (n + j) r i (omega arith) ∙ J.low i p;
    high = up_to {Q = λ i. at (stored s l (n + j) r) l (n + i) ≡ at u l i * 2 ^ n} j
        (λ i p. stored_row s l (n + j) r (n + i) (omega arith) ∙ J.high i p)
        (stored_same s l (n + j) r J.size w h ∙ hr);
    size = length_stored s l (n + j) r ∙ J.size;
  })

-- ---- the sum

module _ (a : ℕ) (t : List ℕ) (n i f : ℕ) (u : List ℕ) (m i' f' : ℕ) (ok : Bounded a t n i f) (ok' : Bounded a u m i' f') (s : List ℕ) (S : Filled a (n + m) (beside (at t) (at u) n) s) where
  pub sum_bounded : n + m ≤ width → Bounded a s (n + m) (bit_xor i (i' * 2 ^ n)) (bit_xor f (f' * 2 ^ n))
  sum_bounded h = record {
    states = h;
    letters = ok.letters;
    size = S.size;
    initial = pair_lt n m i i' ok.initial ok'.initial;
    finals = pair_lt n m f f' ok.finals ok'.finals;
    rows = λ l k p q. rw (S.rows l k p q) (beside_lt a (at t) n (at u) m ok.rows ok'.rows l k p q);
  }

  pub sum_bits : SameBits a (auto s (n + m) (bit_xor i (i' * 2 ^ n)) (bit_xor f (f' * 2 ^ n))) (sum_of (auto t n i f) (auto u m i' f'))
  sum_bits = filled_bits a (n + m) (beside (at t) (at u) n) s (bit_xor i (i' * 2 ^ n)) (bit_xor f (f' * 2 ^ n)) (sum_of (auto t n i f) (auto u m i' f')) S
      (beside_bits a (at t) n (at u) m ok.rows i f i' f' ok.initial ok.finals)
