-- Matrices copied from one table to another, and then transposed.
use mathlib.Core.Path.{◌≡◌, ◌∙◌}
use mathlib.Core.List.{List}
use Prim.Native.Nat.{ℕ, ◌+◌, ◌<◌}
use native.Mathlib.Numerals.{add-one}
use native.Mathlib.Omega.{arith}
use Rattle.automata.proofs.Below.{up_to}
use Rattle.rows.specs.Row.{width}
use Rattle.rows.specs.Table.{blocks, at, stored}
use Rattle.rows.proofs.TableLaws.{stored_same, stored_row}
use Rattle.transpose.specs.Exchange.{OnlyBlock}
use Rattle.transpose.proofs.BlockLaws.{only_stored}

-- One more row of block l: t is copied from, u is what c was.
pub copy_step : (l i x : ℕ) (t u c c' : List ℕ) → l < blocks → i < width → x ≡ at t l i → c' ≡ stored c l i x → OnlyBlock l u c × ((r : ℕ) → r < i → at c l r ≡ at t l r)
    → OnlyBlock l u c' × ((r : ℕ) → r < i + 1 → at c' l r ≡ at t l r)
copy_step l i x t u c c' hl hi hx e C = rw (e, add-one) (
  only_stored l i x u c hi C.0,
  up_to {Q = λ r. at (stored c l i x) l r ≡ at t l r} i (λ r h. stored_row c l i x r (omega arith) ∙ C.1 r h) (stored_same c l i x C.0.size hl hi ∙ hx),
)
