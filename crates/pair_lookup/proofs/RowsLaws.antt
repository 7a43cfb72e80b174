-- The rows of two records side by side, one by one, and the product with a table of them.
use mathlib.Core.Path.{◌≡◌, sym, ap, ◌∙◌}
use mathlib.Core.List.{List}
use Prim.Native.Nat.{ℕ, ◌+◌, ◌-◌, ◌*◌, ◌^◌, ◌<◌, ◌≤◌}
use native.Mathlib.Nat.{lt_of_lt_of_le}
use native.Mathlib.Omega.{arith}
use lib.Pow.{pow_mono}
use Rattle.rows.specs.Product.{product}
use Rattle.rows.specs.Beside.{beside}
use Rattle.rows.proofs.BesideLaws.{if_low, if_high}
use Rattle.rows.proofs.ProductLaws.{product_cong}
use Rattle.lookup.proofs.LookupLaws.{product_width}
use Rattle.record.specs.Record.{states_of, row_at}
use Rattle.pair_lookup.specs.Rows.{row_beside}

module _ (bs cs : List ℕ) (l : ℕ) where
  abbrev n : ℕ
  n = states_of bs

  abbrev N : ℕ
  N = states_of bs + states_of cs

  abbrev M : ℕ → ℕ
  M = beside (row_at bs) (row_at cs) (states_of bs) l

  pub row_there : (i : ℕ) → i < N → row_beside bs cs l i ≡ M i
  row_there i h = if_low i N (M i) 0 h

  -- A row of the first, a row of the second, and none.
  pub row_first : (i x : ℕ) → i < n → x ≡ row_at bs l i → x ≡ row_beside bs cs l i
  row_first i x h e = e ∙ sym (row_there i (omega arith) ∙ if_low i n (row_at bs l i) (row_at cs l (i - n) * 2 ^ n) h)

  pub row_second : (i k x y : ℕ) → n ≤ i → i < N → k ≡ n → x ≡ row_at cs l (i - k) → y ≡ x * 2 ^ k → y ≡ row_beside bs cs l i
  row_second i k x y g h e ex ey = ey ∙ ap (λ v. v * 2 ^ k) ex ∙ ap (λ m. row_at cs l (i - m) * 2 ^ m) e ∙ sym (row_there i h ∙ if_high i n (row_at bs l i) (row_at cs l (i - n) * 2 ^ n) g)

  pub row_past : (i x : ℕ) → N ≤ i → x ≡ 0 → x ≡ row_beside bs cs l i
  row_past i x h e = e ∙ sym (if_high i N (M i) 0 h)

  -- A row that has no bit past the states of both.
  pub beside_product : (k x : ℕ) → x < 2 ^ N → N ≤ k * 4 → product (k * 4) x (row_beside bs cs l) ≡ product N x M
  beside_product k x h g = product_width (k * 4) N x (row_beside bs cs l) (lt_of_lt_of_le h (pow_mono g)) h ∙ product_cong N x (row_beside bs cs l) M row_there
