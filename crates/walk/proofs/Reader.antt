-- Marking visits the records that the reader of the script gives out, one after another: unless the key stops it, it goes on after each
-- of them where the reader stands, and what is no whole record ends both.
use mathlib.Core.Path.{◌≡◌, refl, sym, ap, ◌∙◌}
use mathlib.Core.List.{List}
use Prim.Native.Nat.{ℕ, zero, suc, ◌-◌, ◌<◌}
use native.Mathlib.Omega.{arith}
use borrow.Author.Tests.{ne_eqb}
use lib.ListN.{length}
use Rattle.record.specs.Record.{check_of}
use Rattle.record.specs.Rules.{Check}
use Rattle.std.specs.Prelude.{None, Some, Ok, Err}
use Rattle.script.specs.declared.Whole.{Whole}
use Rattle.script.specs.Script.{Part, whole, part_at, after_part, read_to, part_of_index, bytes_at}
use Rattle.script.proofs.Parts.{end_met}
use Rattle.script.proofs.Reading.{read_first, read_on}
use Rattle.walk.specs.Walk.{on_good, past_part, past_of, place_of}
use Rattle.walk.proofs.Places.{place_ended}

-- Where marking goes on after what the reader gave out: past a record, else at the script's end.
abbrev pub onward : List ℕ → Part → ℕ
onward s (Some (Ok w)) = w.next
onward s (Some (Err f)) = length s
onward s None = length s

module _ (s : List ℕ) where
  past_answers : (k : ℕ) (p : Part) → past_part s (suc k) p ≡ onward s p
  past_answers k (Some (Ok w)) = rw (ne_eqb (suc k) 0 (λ z. omega arith))
  past_answers k (Some (Err f)) = refl
  past_answers k None = refl

  -- Where the reader stands after a part.
  moved : (k : ℕ) (p : Part) → part_of_index s k ≡ p → read_to s (suc k) ≡ after_part p (read_to s k)
  moved k p e = read_on s k ∙ ap (λ p. after_part p (read_to s k)) e

  onward_next : (k : ℕ) (p : Part) → part_of_index s k ≡ p → onward s (part_at s (onward s p)) ≡ onward s (part_of_index s (suc k))
  onward_next k (Some (Ok w)) e = ap (λ at. onward s (part_at s at)) (sym (moved k (Some (Ok w)) e))
  onward_next k (Some (Err f)) e =
      ap (onward s) (sym (end_met s (length s) (omega arith))) ∙ sym (ap (λ at. onward s (part_at s at)) (moved k (Some (Err f)) e) ∙ ap (onward s) e)
  onward_next k None e = ap (onward s) (sym (end_met s (length s) (omega arith))) ∙ sym (ap (λ at. onward s (part_at s at)) (moved k None e) ∙ ap (onward s) e)

  place_next : (k : ℕ) → place_of s (suc k) ≡ onward s (part_of_index s k) → place_of s (suc (suc k)) ≡ onward s (part_of_index s (suc k))
  unfolding place_of past_of
  place_next k e = ap (past_of s (suc k)) e ∙ past_answers k (part_at s (onward s (part_of_index s k))) ∙ onward_next k (part_of_index s k) refl

  pub place_first : place_of s 0 ≡ 0
  unfolding place_of
  place_first = refl

  pub place_second : place_of s 1 ≡ past_of s 0 0
  unfolding place_of
  place_second = refl

  -- Marking that ends with the key.
  pub key_only : place_of s 1 ≡ length s → (index : ℕ) → 0 < index → length s ≡ place_of s index
  key_only e zero h = absurd (omega arith)
  key_only e (suc zero) h = sym e
  key_only e (suc (suc k)) h = place_ended s 1 (suc (suc k)) (omega (arith, e)) (omega arith)

  -- The key does not stop the marking.
  abbrev pub GoesOn : Type 0
  GoesOn = place_of s 1 ≡ onward s (part_of_index s 0)

  module _ (w : Whole) (e : part_at s 0 ≡ Some (Ok w)) where
    pub past_first : {c : Check} → check_of (bytes_at s w.start w.next) ≡ c → past_of s 0 0 ≡ on_good c w.next (length s)
    unfolding past_of
    past_first h = ap (past_part s 0) e ∙ ap (λ c. on_good c w.next (length s)) h

  pub key_passes : (start next : ℕ) → part_at s 0 ≡ Some (Ok (whole start next)) → check_of (bytes_at s start next) ≡ Ok tt → GoesOn
  unfolding place_of
  key_passes start next e good = past_first (whole start next) e good ∙ sym (ap (onward s) (ap (part_at s) (read_first s) ∙ e))

  -- It does not where marking goes on after it.
  pub key_passed : (place_of s 1 ≡ length s → ⊥) → GoesOn
  unfolding place_of past_of
  key_passed more = go (part_at s 0) refl ∙ sym (ap (λ at. onward s (part_at s at)) (read_first s))
    where
      go : (p : Part) → part_at s 0 ≡ p → past_of s 0 0 ≡ onward s (part_at s 0)
      go (Some (Ok w)) e = checked (check_of (bytes_at s w.start w.next)) refl
        where
          checked : (c : Check) → check_of (bytes_at s w.start w.next) ≡ c → past_of s 0 0 ≡ onward s (part_at s 0)
          checked (Ok u) good = past_first w e good ∙ sym (ap (onward s) e)
          checked (Err f) bad = absurd (more (past_first w e bad))
      go (Some (Err f)) e = ap (past_part s 0) e ∙ sym (ap (onward s) e)
      go None e = ap (past_part s 0) e ∙ sym (ap (onward s) e)

  module _ (key : GoesOn) where
    pub place_read : (k : ℕ) → place_of s (suc k) ≡ onward s (part_of_index s k)
    place_read zero = key
    place_read (suc k) = place_next k (place_read k)

    pub place_after : (index : ℕ) → 0 < index → (p : Part) → p ≡ part_of_index s (index - 1) → onward s p ≡ place_of s index
    place_after zero h p e = absurd (omega arith)
    place_after (suc k) h p e =
        let k≡ : suc k - 1 ≡ k = omega arith in
        ap (onward s) (e ∙ ap (part_of_index s) k≡) ∙ sym (place_read k)

    place_on : (k : ℕ) (w : Whole) → part_of_index s k ≡ Some (Ok w) → place_of s (suc k) ≡ read_to s (suc k)
    place_on k w e = place_read k ∙ ap (onward s) e ∙ sym (moved k (Some (Ok w)) e)

    -- Until marking ends, the record of each index stands where the reader does.
    pub place_reader : (k : ℕ) → place_of s k < length s → place_of s k ≡ read_to s k
    place_reader zero more = place_first ∙ sym (read_first s)
    place_reader (suc k) more = go (part_of_index s k) refl
      where
        go : (p : Part) → part_of_index s k ≡ p → place_of s (suc k) ≡ read_to s (suc k)
        go (Some (Ok w)) e = place_on k w e
        go (Some (Err f)) e = absurd (omega (arith, place_read k ∙ ap (onward s) e))
        go None e = absurd (omega (arith, place_read k ∙ ap (onward s) e))

    -- What the reader gives out whole at its call of an index is the record of that index.
    pub place_given : (k start next : ℕ) → part_of_index s k ≡ Some (Ok (whole start next)) → place_of s k ≡ read_to s k
    place_given zero start next w = place_first ∙ sym (read_first s)
    place_given (suc k) start next w = go (part_of_index s k) refl
      where
        go : (p : Part) → part_of_index s k ≡ p → place_of s (suc k) ≡ read_to s (suc k)
        go (Some (Ok w')) e = place_on k w' e
        go (Some (Err f)) e =
            let stays = ap (part_at s) (moved k (Some (Err f)) e) in
            let z : ◌≡◌ {A = ℕ} 0 1 = cc in
            absurd (omega arith)
        go None e =
            let stays = ap (part_at s) (moved k None e) in
            let z : ◌≡◌ {A = ℕ} 0 1 = cc in
            absurd (omega arith)
