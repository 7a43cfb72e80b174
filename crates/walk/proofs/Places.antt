-- What is no whole record ends the marking. Past the script's end no record stands, so marking that has come to the end stays there.
use mathlib.Core.Path.{◌≡◌, refl, ap, subst, ◌∙◌}
use mathlib.Core.List.{List}
use Prim.Native.Nat.{ℕ, zero, suc, ◌≤◌, ◌<◌}
use native.Mathlib.Decide.{dec_lt}
use native.Mathlib.Omega.{arith}
use lib.ListN.{length}
use Rattle.std.specs.Prelude.{None, Some, Ok, Err}
use Rattle.script.specs.Script.{Part, part_at}
use Rattle.script.specs.declared.Whole.{Whole}
use Rattle.script.proofs.Parts.{end_met}
use Rattle.walk.specs.Walk.{past_part, past_of, place_of}

module _ (s : List ℕ) where
  -- What is no whole record ends the marking.
  pub past_stops : (index at : ℕ) (p : Part) → p ≡ part_at s at → ((w : Whole) → p ≡ Some (Ok w) → ⊥) → length s ≡ past_of s index at
  unfolding past_of
  past_stops index at p e h = stops p h ∙ ap (past_part s index) e
    where
      stops : (p : Part) → ((w : Whole) → p ≡ Some (Ok w) → ⊥) → length s ≡ past_part s index p
      stops (Some (Ok w)) h = absurd (h w refl)
      stops (Some (Err f)) h = refl
      stops None h = refl

  past_end : (index at : ℕ) → length s ≤ at → past_of s index at ≡ length s
  unfolding past_of
  past_end index at h = rw (← end_met s at h)

  -- Marking that has come to the end stays there.
  stays : (i j : ℕ) → length s ≤ place_of s i → i ≤ j → length s ≤ place_of s j
  unfolding place_of
  stays i zero h l =
      let e : i ≡ zero = omega arith in
      subst (λ k. length s ≤ place_of s k) e h
  stays i (suc j) h l = go (dec_lt j i) (λ g. stays i j h g)
    where
      go : Dec (j < i) → (i ≤ j → length s ≤ place_of s j) → length s ≤ place_of s (suc j)
      go (yes g) before =
          let e : i ≡ suc j = omega arith in
          subst (λ k. length s ≤ place_of s k) e h
      go (no g) before = omega (arith, past_end j (place_of s j) (before (omega arith)))

  pub place_ended : (i j : ℕ) → length s ≤ place_of s i → i < j → length s ≡ place_of s j
  unfolding place_of
  place_ended i zero h l = absurd (omega arith)
  place_ended i (suc j) h l = let e = past_end j (place_of s j) (stays i j h (omega arith)) in omega (arith, e)
