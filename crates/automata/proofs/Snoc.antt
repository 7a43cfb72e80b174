-- A list of words with one more at its end.
use mathlib.Core.Path.{◌≡◌, sym, subst, ◌∙◌}
use mathlib.Core.List.{List, [], ◌∷◌, ◌++◌}
use Prim.Native.Nat.{ℕ, suc, ◌<◌}
use native.Mathlib.Omega.{arith}
use lib.ListN.{length, get_or, length-append, get_or-append}
use lib.Seq.{get_or-append_seam}
use Rattle.automata.proofs.Below.{up_to}

module _ (bs : List (List ℕ)) (w : List ℕ) where
  pub length_snoc : length (bs ++ (w ∷ [])) ≡ suc (length bs)
  length_snoc = length-append bs (w ∷ []) ∙ omega arith

  pub at_new : get_or (bs ++ (w ∷ [])) (length bs) [] ≡ w
  at_new = get_or-append_seam bs w [] []

  pub at_old : (k : ℕ) → k < length bs → get_or (bs ++ (w ∷ [])) k [] ≡ get_or bs k []
  at_old k h = get_or-append bs (w ∷ []) [] k h

  -- What holds of each word of bs and of w holds of each word of the longer list.
  pub snoc_all : (P : ℕ → List ℕ → Type 0) → ((k : ℕ) → k < length bs → P k (get_or bs k [])) → P (length bs) w → (k : ℕ) → k < length (bs ++ (w ∷ [])) → P k (get_or (bs ++ (w ∷ [])) k [])
  snoc_all P old new k h =
      up_to {Q = λ k. P k (get_or (bs ++ (w ∷ [])) k [])} (length bs) (λ k p. subst (P k) (sym (at_old k p)) (old k p)) (subst (P (length bs)) (sym at_new) new) k
      (omega (arith, length_snoc))
