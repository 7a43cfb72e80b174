-- Rows passed over: a table of the basis keeps each of their products, which is then an xor of rows found.
use mathlib.Core.Path.{◌≡◌, refl, sym, ap, subst, ◌∙◌}
use mathlib.Core.List.{List}
use Prim.Native.Nat.{ℕ, zero, suc, ◌+◌, ◌*◌, ◌^◌, ◌<◌, ◌≤◌}
use native.Mathlib.Numerals.{add-one}
use native.Mathlib.Omega.{arith}
use lib.Bits.{bit_and, bit_xor, xor_self}
use Rattle.rows.specs.Product.{product}
use Rattle.rows.proofs.ProductLaws.{product_lt}
use Rattle.basis.specs.Basis.{cell}
use Rattle.lookup.specs.Lookup.{chosen, Kept}
use Rattle.lookup.proofs.LookupLaws.{chosen_product}
use Rattle.elimination.proofs.PlaceLaws.{left_of_lem}
use Rattle.trail.specs.declared.Step.{Step}
use Rattle.hunt.specs.Hunt.{Hunting}
use Rattle.hunt.proofs.HuntLaws.{Known, left_known, hunting_old, hunting_next}

-- The table has g fours of rows: those of the basis at its pivots p.
kept_known : (σ n d p v g y : ℕ) (b : List ℕ) → p < 2 ^ (g * 4) → y < 2 ^ n → Kept g (chosen p (cell σ b 0)) y → Known σ n d p v b y
kept_known σ n d p v g y b hp low e = left_known σ n d p v b y low (bit_xor y x) (left_of_lem σ p y b (bit_and y p) x (bit_xor y x) refl (chosen_product (g * 4) p y (cell σ b 0) hp) refl) (ap (bit_xor y) (sym e) ∙ xor_self y)
  where
    x : ℕ
    x = product (g * 4) y (chosen p (cell σ b 0))

module _ (σ a : ℕ) (M : ℕ → ℕ → ℕ) (n i f : ℕ) (rows : (l j : ℕ) → l < a → j < n → M l j < 2 ^ n) (b : List ℕ) (w : List Step) (d p v : ℕ) where
  short : (k l : ℕ) → l < a → product n (cell σ b 1 k) (M l) < 2 ^ n
  short k l h = product_lt n n (cell σ b 1 k) (M l) (λ j. rows l j h)

  -- The letters below l are done.
  letters_known : (k : ℕ) → k < d → Hunting σ a M n i f b w d k 0 p v → ((l : ℕ) → l < a → Known σ n d p v b (product n (cell σ b 1 k) (M l))) → (l : ℕ) → l ≤ a → Hunting σ a M n i f b w d k l p v
  letters_known k hk H e zero h = H
  letters_known k hk H e (suc l) h =
      subst (λ z. Hunting σ a M n i f b w d k z p v) (add-one l)
      (hunting_old σ a M n i f b w d k l p v (letters_known k hk H e l (omega arith)) hk (omega arith) (product n (cell σ b 1 k) (M l)) refl (e l (omega arith)))

  row_known : (k : ℕ) → k < d → ((l : ℕ) → l < a → Known σ n d p v b (product n (cell σ b 1 k) (M l))) → Hunting σ a M n i f b w d k 0 p v → Hunting σ a M n i f b w d (k + 1) 0 p v
  row_known k hk e H = hunting_next σ a M n i f b w d k p v (letters_known k hk H e a (omega arith))

  -- Row k, which is x, where the table keeps its products.
  pub row_kept : (g : ℕ) → p < 2 ^ (g * 4) → (k x : ℕ) → k < d → x ≡ cell σ b 1 k → ((l : ℕ) → l < a → Kept g (chosen p (cell σ b 0)) (product n x (M l))) → Hunting σ a M n i f b w d k 0 p v → Hunting σ a M n i f b w d (k + 1) 0 p v
  row_kept g hp k x hk ex e = row_known k hk (λ l h. kept_known σ n d p v g (product n (cell σ b 1 k) (M l)) b hp (short k l h) (subst (λ z. Kept g (chosen p (cell σ b 0)) (product n z (M l))) ex (e l h)))
