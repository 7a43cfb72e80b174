-- One record after another: a reader that has given out no whole record stays where it is, so it need not be asked again.
use mathlib.Core.Path.{◌≡◌, refl, sym, ap, ◌∙◌}
use mathlib.Core.Bool.{true, false}
use mathlib.Core.List.{List}
use Prim.Native.Nat.{ℕ, zero, suc, ◌+◌, ◌-◌, ◌≤◌}
use native.Mathlib.Omega.{arith}
use borrow.Author.Tests.{eqb-true}
use Rattle.script.specs.Script.{Part, part_at, after_part, read_to, part_of_index, is_last}
use Rattle.std.specs.Prelude.{Ok, Err, Some, None}

module _ (s : List ℕ) where
  pub read_first : read_to s 0 ≡ 0
  unfolding read_to
  read_first = refl

  pub read_on : (k : ℕ) → read_to s (suc k) ≡ after_part (part_of_index s k) (read_to s k)
  unfolding read_to
  read_on k = refl

  stays : (k j : ℕ) → read_to s (suc k) ≡ read_to s k → read_to s (j + k) ≡ read_to s k
  stays k zero still =
      let e : zero + k ≡ k = omega arith in
      ap (read_to s) e
  stays k (suc j) still =
      let e : suc j + k ≡ suc (j + k) = omega arith in
      ap (read_to s) e ∙ read_on (j + k) ∙ ap (λ at. after_part (part_at s at) at) (stays k j still) ∙ sym (read_on k) ∙ still

  -- The part after which no more is asked for is the one that is wanted.
  pub last_wanted : (k left : ℕ) → is_last (part_of_index s k) left ≡ true → part_of_index s k ≡ part_of_index s (left + k)
  last_wanted k left h = go (part_of_index s k) refl h
    where
      stood : read_to s (suc k) ≡ read_to s k → part_of_index s k ≡ part_of_index s (left + k)
      stood still = ap (part_at s) (sym (stays k left still))

      go : (p : Part) → part_of_index s k ≡ p → is_last p left ≡ true → part_of_index s k ≡ part_of_index s (left + k)
      go (Some (Ok w)) e none =
          let z : left ≡ 0 = eqb-true left 0 none in
          let same : k ≡ left + k = omega arith in
          ap (part_of_index s) same
      go (Some (Err f)) e none = stood (read_on k ∙ ap (λ p. after_part p (read_to s k)) e)
      go None e none = stood (read_on k ∙ ap (λ p. after_part p (read_to s k)) e)

  -- What is given out early is what every later call gives out too.
  pub given_early : (k index : ℕ) {p q : Part} → k ≤ index → p ≡ part_of_index s k → p ≡ q → is_last q (index - k) ≡ true → p ≡ part_of_index s index
  given_early k index h e is none =
      let i : index - k + k ≡ index = omega arith in
      e ∙ last_wanted k (index - k) (ap (λ p. is_last p (index - k)) (sym e ∙ is) ∙ none) ∙ ap (part_of_index s) i

pub more_wanted : (p : Part) (left : ℕ) → is_last p left ≡ false → 1 ≤ left
more_wanted (Some (Ok w)) zero more = absurd (cc)
more_wanted (Some (Ok w)) (suc left) more = omega arith
more_wanted (Some (Err f)) left more = absurd (cc)
more_wanted None left more = absurd (cc)
