-- Quotients that are an xor of quotients by words of a list.
use mathlib.Core.Path.{◌≡◌, refl, sym, ap, ap₂, ◌∙◌}
use mathlib.Core.Bool.{Bool, true, false, ◌&&◌, and_assoc, false≢true}
use mathlib.Core.Logic.{◌⊎◌, inl, inr}
use mathlib.Core.List.{List, []}
use Prim.Native.Nat.{ℕ, zero, suc, ◌<◌}
use native.Mathlib.Omega.{arith}
use lib.ListN.{length, get_or}
use Rattle.automata.specs.Xor.{◌⊕◌, xor_below, comb}
use Rattle.automata.specs.Language.{Language, quotient, Same}
use Rattle.automata.specs.Word.{Over}
use Rattle.automata.specs.Dimension.{quotients}
use Rattle.automata.proofs.Xor.{xor_cong, xor_none, xor_coef, xor_scale}
use Rattle.automata.proofs.Below.{find}

-- The quotient by w is an xor of quotients by words of bs whose places are in Q.
pub record SpannedIn (a : ℕ) (L : Language) (bs : List (List ℕ)) (Q : ℕ → Type 0) (w : List ℕ) : Type 0 where
  pub coef : ℕ → Bool
  pub sum : Same a (quotient L w) (comb (length bs) coef (quotients L (λ i. get_or bs i [])))
  pub inside : (j : ℕ) → j < length bs → coef j ≡ true → Q j

pub and_parts : (x y : Bool) → x && y ≡ true → (x ≡ true) × (y ≡ true)
and_parts true y e = (refl, e)
and_parts false y e = absurd (false≢true e)

-- A true member of a family whose xor is true.
pub some_member : (m : ℕ) (f : ℕ → Bool) → xor_below m f ≡ true → (i : ℕ) × (i < m) × (f i ≡ true)
some_member m f e = go (find m f)
  where
    go : ((p : ℕ) × (p < m) × (f p ≡ true)) ⊎ ((i : ℕ) → i < m → f i ≡ false) → (i : ℕ) × (i < m) × (f i ≡ true)
    go (inl t) = t
    go (inr n) = absurd (false≢true (sym (xor_none m n) ∙ e))

xor_either : (x y : Bool) → x ⊕ y ≡ true → (x ≡ true) ⊎ (y ≡ true)
xor_either true y e = inl refl
xor_either false y e = inr e

-- An xor of quotients spanned in Q is spanned in Q.
pub span_sum : (a : ℕ) (L : Language) (bs : List (List ℕ)) (Q : ℕ → Type 0) (m : ℕ) (c : ℕ → Bool) (u : ℕ → List ℕ) → ((i : ℕ) → i < m → SpannedIn a L bs Q (u i))
    → (d : ℕ → Bool) × ((v : List ℕ) → Over a v → comb m c (quotients L u) v ≡ comb (length bs) d (quotients L (λ i. get_or bs i [])) v) × ((j : ℕ) → j < length bs → d j ≡ true → Q j)
span_sum a L bs Q zero c u s = (λ i. false, λ v ov. sym (xor_none (length bs) (λ i p. refl)), λ j p e. absurd (false≢true e))
span_sum a L bs Q (suc m) c u s = add (span_sum a L bs Q m c u (λ i p. s i (omega arith))) (s m (omega arith))
  where
    q : ℕ → List ℕ → Bool
    q = quotients L (λ i. get_or bs i [])

    add : (d : ℕ → Bool) × ((v : List ℕ) → Over a v → comb m c (quotients L u) v ≡ comb (length bs) d q v) × ((j : ℕ) → j < length bs → d j ≡ true → Q j) → SpannedIn a L bs Q (u m)
        → (d : ℕ → Bool) × ((v : List ℕ) → Over a v → comb (suc m) c (quotients L u) v ≡ comb (length bs) d q v) × ((j : ℕ) → j < length bs → d j ≡ true → Q j)
    add t r = (
      λ j. t.0 j ⊕ (c m && r.coef j),
      λ v ov.
          ap₂ ◌⊕◌ (t.1 v ov)
          (ap (λ b. c m && b) (r.sum v ov) ∙ sym (xor_scale (length bs) (c m) (λ j. r.coef j && q j v)) ∙ xor_cong (length bs) (λ j p. sym (and_assoc (c m) (r.coef j) (q j v))))
          ∙ sym (xor_coef (length bs) t.0 (λ j. c m && r.coef j) (λ j. q j v)),
      inside,
    )
      where
        inside : (j : ℕ) → j < length bs → t.0 j ⊕ (c m && r.coef j) ≡ true → Q j
        inside j p e = go (xor_either (t.0 j) (c m && r.coef j) e)
          where
            go : (t.0 j ≡ true) ⊎ (c m && r.coef j ≡ true) → Q j
            go (inl x) = t.2 j p x
            go (inr x) = r.inside j p (and_parts (c m) (r.coef j) x).1
