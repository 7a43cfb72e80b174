-- A table filled row by row, and the automaton in it.
use mathlib.Core.Path.{◌≡◌, ap, ◌∙◌}
use mathlib.Core.List.{List}
use Prim.Native.Nat.{ℕ, ◌+◌, ◌<◌, ◌≤◌}
use native.Mathlib.Nat.{not-suc-le-zero}
use native.Mathlib.Numerals.{add-one}
use native.Mathlib.Omega.{arith}
use lib.ListN.{length}
use Rattle.automata.specs.Automaton.{Automaton}
use Rattle.automata.specs.Mask.{bit_of}
use Rattle.automata.specs.Minimal.{SameBits}
use Rattle.automata.proofs.Below.{up_to}
use Rattle.rows.specs.Row.{width}
use Rattle.rows.specs.Table.{blocks, size, at, stored}
use Rattle.rows.specs.Machine.{auto_by, auto}
use Rattle.rows.proofs.TableLaws.{length_stored, stored_same, stored_block, stored_row}
use Rattle.direct_sum.specs.Filled.{Filled}

-- The first l blocks, and k rows of the next.
pub record Filling (k l n : ℕ) (f : ℕ → ℕ → ℕ) (s : List ℕ) : Type 0 where
  pub blocks : Filled l n f s
  pub rows : (i : ℕ) → i < k → at s l i ≡ f l i

pub filling_start : (l n : ℕ) (f : ℕ → ℕ → ℕ) (s : List ℕ) → Filled l n f s → Filling 0 l n f s
filling_start l n f s F = record { blocks = F; rows = λ i h. absurd (not-suc-le-zero h) }

pub filling_step : (k l n : ℕ) (f : ℕ → ℕ → ℕ) (s s' : List ℕ) (r : ℕ) → k < n → n ≤ width → l < blocks → r ≡ f l k → s' ≡ stored s l k r → Filling k l n f s → Filling (k + 1) l n f s'
filling_step k l n f s s' r h g w hr e F = rw (e, add-one) (record {
  blocks = record {
    rows = λ x i p q. stored_block s l k r x i (omega arith) (omega arith) (omega arith) ∙ F.blocks.rows x i p q;
    size = length_stored s l k r ∙ F.blocks.size;
  };
  rows = up_to k (λ i p. stored_row s l k r i (omega arith) ∙ F.rows i p) (stored_same s l k r F.blocks.size w (omega arith) ∙ hr);
})

pub filling_end : (l n : ℕ) (f : ℕ → ℕ → ℕ) (s : List ℕ) → Filling n l n f s → Filled (l + 1) n f s
filling_end l n f s F = rw add-one (record {
  rows = λ x i p. up_to {Q = λ x. i < n → at s x i ≡ f x i} l (λ x p q. F.blocks.rows x i p q) (λ q. F.rows i q) x p;
  size = F.blocks.size;
})

pub filled_none : (n : ℕ) (f : ℕ → ℕ → ℕ) (s : List ℕ) → length s ≡ size → Filled 0 n f s
filled_none n f s h = record { rows = λ l i p. absurd (not-suc-le-zero p); size = h }

-- The automaton in a filled table has the bits that the automaton of its rows has.
pub filled_bits : (a n : ℕ) (f : ℕ → ℕ → ℕ) (s : List ℕ) (x y : ℕ) (C : Automaton) → Filled a n f s → SameBits a (auto_by f n x y) C → SameBits a (auto s n x y) C
filled_bits a n f s x y C S B = record {
  states = B.states;
  initial = B.initial;
  final = B.final;
  step = λ l k j hl hk hj. ap (λ v. bit_of v j) (S.rows l k hl hk) ∙ B.step l k j hl hk hj;
}
