-- A row in two halves, each times a matrix of its own record: k is the number of states of the first, h the half above, low the half below.
use mathlib.Core.Path.{◌≡◌, sym, ap, ap₂, ◌∙◌}
use mathlib.Core.List.{List}
use Prim.Native.Nat.{ℕ, ◌+◌, ◌*◌, ◌/◌, ◌^◌, ◌≤◌, ◌<◌}
use native.Mathlib.Nat.{lt_of_lt_of_le}
use native.Mathlib.Omega.{arith}
use lib.Bits.{bit_xor}
use lib.Pow.{pow_mono}
use Rattle.rows.specs.Row.{width}
use Rattle.rows.specs.Product.{product}
use Rattle.rows.specs.Beside.{beside}
use Rattle.rows.proofs.ProductLaws.{product_lt}
use Rattle.rows.proofs.BesideLaws.{moved_fits, high_lt, low_lt, product_beside}
use Rattle.record.specs.Record.{states_of, letters_of, row_at, WellFormed}
use Rattle.record.proofs.Refusals.{good_check}
use Rattle.record.proofs.Encode.{row_below}

module _ (n m x k h low : ℕ) (ek : k ≡ n) (eh : h ≡ x / 2 ^ k) (el : low ≡ bit_xor x (x / 2 ^ k * 2 ^ k)) where
  high_is : h ≡ x / 2 ^ n
  high_is = eh ∙ ap (λ i. x / 2 ^ i) ek

  low_is : low ≡ bit_xor x (x / 2 ^ n * 2 ^ n)
  low_is = el ∙ ap (λ i. bit_xor x (x / 2 ^ i * 2 ^ i)) ek

  pub high_part : x < 2 ^ (n + m) → h < 2 ^ m
  high_part f = rw high_is (high_lt n m x f)

  pub low_part : low < 2 ^ n
  low_part = rw low_is (low_lt n x)

  -- Both products beside each other.
  pub pair_product : (F G : ℕ → ℕ → ℕ) (l y z v r : ℕ) → y ≡ product n low (F l) → z ≡ product m h (G l) → v ≡ z * 2 ^ k → r ≡ bit_xor y v → r ≡ product (n + m) x (beside F G n l)
  pair_product F G l y z v r ey ez ev er =
      er
      ∙ ap₂ bit_xor (ey ∙ ap (λ a. product n a (F l)) low_is) (ev ∙ ap₂ (λ a i. a * 2 ^ i) (ez ∙ ap (λ a. product m a (G l)) high_is) ek)
      ∙ sym (product_beside n m x F G l)

-- A row of two records has no more bits than a row can have.
pub row_fits : (bs cs : List ℕ) → WellFormed bs → WellFormed cs → (k x : ℕ) → k ≡ states_of bs → x < 2 ^ (states_of bs + states_of cs) → (k < width) × (x < 2 ^ width)
row_fits bs cs p q k x e h =
    let f = (good_check bs p).front.states in
    let g = (good_check cs q).front.states in
    let w : states_of bs + states_of cs ≤ width = omega (arith, f, g) in
    (omega (arith, e, f), lt_of_lt_of_le h (pow_mono w))

-- What the second record's part makes can be moved up by the states of the first.
pub moves_up : (bs cs : List ℕ) → WellFormed bs → WellFormed cs → (k y : ℕ) → k ≡ states_of bs → y < 2 ^ states_of cs → (k < width) × (y * 2 ^ k < 2 ^ width)
moves_up bs cs p q k y e h =
    let f = (good_check bs p).front.states in
    let g = (good_check cs q).front.states in
    let w : k + states_of cs ≤ width = omega (arith, e, f, g) in
    (omega (arith, e, f), moved_fits k (states_of cs) y h w)

-- A product with a matrix of a record has no bit at its number of states or above.
pub product_below : (bs : List ℕ) → WellFormed bs → (l x y : ℕ) → l < letters_of bs → y ≡ product (states_of bs) x (row_at bs l) → y < 2 ^ states_of bs
product_below bs p l x y h e = rw e (product_lt (states_of bs) (states_of bs) x (row_at bs l) (λ i g. row_below bs (good_check bs p) l i h g))
