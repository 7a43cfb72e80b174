-- The word of a row, letter by letter from its end.
use mathlib.Core.Path.{◌≡◌, refl, sym, ap, ◌∙◌}
use mathlib.Core.List.{List, [], ◌∷◌, ◌++◌}
use Prim.Native.Nat.{ℕ, ◌+◌, ◌-◌, ◌<◌, ◌≤◌}
use native.Mathlib.Decide.{ℕ_discrete, dec_lt}
use native.Mathlib.Omega.{arith}
use lib.ListN.{length, get_or, set, drop, length-set, length-append, length-drop, get_or-append}
use lib.Seq.{get_or-append_seam, get_or-append-add, get_or-set_same, get_or-set_other, get_or-drop, ext_get_or}
use Rattle.trail.specs.declared.Step.{Step}
use Rattle.trail.specs.Trail.{from_in, by_in, word_in, Traced}

-- The length of the word of row r.
abbrev pub depth : List Step → ℕ → ℕ
depth w r = length (word_in w r)

-- The letters from p on are written, and the word of r is what comes before.
pub record Writing (k : ℕ) (w : List Step) (n r p : ℕ) (s₀ s : List ℕ) : Type 0 where
  pub within : r ≤ k
  pub place : depth w r ≡ p
  pub front : (i : ℕ) → i < p → get_or (word_in w r) i 0 ≡ get_or (word_in w k) i 0
  pub back : (i : ℕ) → p ≤ i → i < n → get_or s i 0 ≡ get_or (word_in w k) i 0
  pub after : (i : ℕ) → n ≤ i → get_or s i 0 ≡ get_or s₀ i 0
  pub size : length s ≡ length s₀
  pub less : p ≤ n

module _ (a k : ℕ) (w : List Step) (T : Traced a k w) where
  pub depth_child : (r : ℕ) → 0 < r → r ≤ k → depth w r ≡ depth w (from_in w r) + 1
  depth_child r p h = ap length (T.word r p h) ∙ length-append (word_in w (from_in w r)) (by_in w r ∷ [])

  pub writing_start : (s : List ℕ) → Writing k w (depth w k) k (depth w k) s s
  writing_start s = record {
    within = omega arith;
    place = refl;
    front = λ i h. refl;
    back = λ i h g. absurd (omega arith);
    after = λ i h. refl;
    size = refl;
    less = omega arith;
  }

  pub writing_step : (n r p : ℕ) (s₀ s : List ℕ) → 0 < r → n ≤ length s₀ → Writing k w n r p s₀ s → Writing k w n (from_in w r) (p - 1) s₀ (set s (p - 1) (by_in w r))
  writing_step n r p s₀ s h g W = record {
    within = omega (arith, T.parent r h W.within, W.within);
    place = omega (arith, dc, W.place);
    front = λ i q. sym (get_or-append (word_in w (from_in w r)) (by_in w r ∷ []) 0 i (omega (arith, dc, W.place)))
        ∙ ap (λ v. get_or v i 0) (sym (T.word r h W.within)) ∙ W.front i (omega arith);
    back = λ i q z. go i q z (ℕ_discrete i (p - 1));
    after = λ i q. get_or-set_other s (p - 1) i (by_in w r) 0 (omega (arith, dc, W.place, W.less)) ∙ W.after i q;
    size = length-set s (p - 1) (by_in w r) ∙ W.size;
    less = omega (arith, W.less);
  }
    where
      dc : depth w r ≡ depth w (from_in w r) + 1
      dc = depth_child r h W.within

      here : get_or (word_in w k) (p - 1) 0 ≡ by_in w r
      here =
          sym (W.front (p - 1) (omega (arith, dc, W.place))) ∙ ap (λ v. get_or v (p - 1) 0) (T.word r h W.within)
          ∙ ap (λ j. get_or (word_in w (from_in w r) ++ (by_in w r ∷ [])) j 0) (omega (arith, dc, W.place))
          ∙ get_or-append_seam (word_in w (from_in w r)) (by_in w r) [] 0

      go : (i : ℕ) → p - 1 ≤ i → i < n → Dec (i ≡ p - 1) → get_or (set s (p - 1) (by_in w r)) i 0 ≡ get_or (word_in w k) i 0
      go i q z (yes e) = ap (λ j. get_or (set s (p - 1) (by_in w r)) j 0) e ∙ get_or-set_same s (p - 1) (by_in w r) 0 (omega (arith, dc, W.place, W.less, W.size)) ∙ sym here
          ∙ ap (λ j. get_or (word_in w k) j 0) (sym e)
      go i q z (no e) = get_or-set_other s (p - 1) i (by_in w r) 0 e ∙ W.back i (omega (arith, e)) z

  -- The whole word stands at the start, and what comes after it stays.
  pub writing_end : (s₀ s : List ℕ) (p : ℕ) → depth w k ≤ length s₀ → Writing k w (depth w k) 0 p s₀ s → s ≡ word_in w k ++ drop (depth w k) s₀
  writing_end s₀ s p h W = ext_get_or 0 s (word_in w k ++ drop (depth w k) s₀) same (λ i g. at_place i (dec_lt i (depth w k)))
    where
      same : length s ≡ length (word_in w k ++ drop (depth w k) s₀)
      same = W.size ∙ omega (arith, length-append (word_in w k) (drop (depth w k) s₀), length-drop (depth w k) s₀)

      at_place : (i : ℕ) → Dec (i < depth w k) → get_or s i 0 ≡ get_or (word_in w k ++ drop (depth w k) s₀) i 0
      at_place i (yes g) = W.back i (omega (arith, W.place)) g ∙ sym (get_or-append (word_in w k) (drop (depth w k) s₀) 0 i g)
      at_place i (no g) =
          W.after i (omega arith)
          ∙ ap (λ j. get_or s₀ j 0) back
          ∙ sym (get_or-drop (depth w k) s₀ (i - depth w k) 0)
          ∙ sym (get_or-append-add (word_in w k) (drop (depth w k) s₀) (i - depth w k) 0)
          ∙ ap (λ j. get_or (word_in w k ++ drop (depth w k) s₀) j 0) (sym back)
        where
          back : i ≡ depth w k + (i - depth w k)
          back = omega arith
