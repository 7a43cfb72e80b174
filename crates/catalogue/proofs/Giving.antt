-- The service case by case, and what holds of the bytes that it wrote: they are the entry's record.
use mathlib.Core.Path.{◌≡◌, sym, ap, subst, ◌∙◌}
use mathlib.Core.List.{List}
use Prim.Native.Nat.{ℕ, ◌≤◌, ◌<◌}
use native.Mathlib.Decide.{dec_le}
use native.Mathlib.Omega.{arith}
use lib.ListN.{length, take}
use borrow.Author.Tests.{lt-ltb, le-ltb}
use Rattle.std.specs.Prelude.{Result, Ok, Err}
use Rattle.record.specs.declared.Rule.TheVariants.{NoEntry}
use Rattle.record.specs.declared.Refusal.{Refusal}
use Rattle.record.specs.Claims.{MinimalRecord}
use Rattle.record.specs.Outcome.{refused, fit, answer_of, buffer_of, answer_in, buffer_in}
use Rattle.record.proofs.Outcome.{fit_bytes}
use Rattle.catalogue.specs.Words.{entry_words}
use Rattle.catalogue.specs.Entries.{last, letters_at, record_of, catalogue_of, GivesEntry}
use Rattle.catalogue.proofs.Records.{record_claims}

-- ---- the cases

module _ (number room : ℕ) where
  pub number_met : last < number → catalogue_of number room ≡ refused NoEntry 0 number
  unfolding catalogue_of
  number_met h = rw (lt-ltb last number h)

  pub number_passes : number ≤ last → catalogue_of number room ≡ fit room (record_of number)
  unfolding catalogue_of
  number_passes h = rw (le-ltb last number h)

-- ---- the bytes written

never_both : {n : ℕ} {r : Refusal} → ◌≡◌ {A = Result ℕ Refusal} (Err r) (Ok n) → ⊥
never_both e = let z : ◌≡◌ {A = ℕ} 0 1 = cc in omega arith

given_bytes : (number room n : ℕ) (buf : List ℕ) → answer_of (catalogue_of number room) ≡ Ok n
    → (number ≤ last) × (take n (buffer_of (catalogue_of number room) buf) ≡ record_of number)
given_bytes number room n buf e = go (dec_le number last)
  where
    go : Dec (number ≤ last) → (number ≤ last) × (take n (buffer_of (catalogue_of number room) buf) ≡ record_of number)
    go (yes h) = let p = number_passes number room h in (h, rw p (fit_bytes room n (record_of number) buf (rw p at e)))
    go (no h) = let p = number_met number room (omega arith) in absurd (never_both (rw p at e))

-- ---- the promises

module _ (number : ℕ) (buf out : List ℕ) (r : Result ℕ Refusal) (answer : r ≡ answer_in (catalogue_of number) buf) (buffer : out ≡ buffer_in (catalogue_of number) buf) where
  -- What is claimed of the entry's record is claimed of the bytes written.
  pub promises : (r ≡ answer_in (catalogue_of number) buf) × ((out ≡ buffer_in (catalogue_of number) buf) × GivesEntry number out r)
  promises = (answer, (buffer, claims))
    where
      claims : GivesEntry number out r
      claims n e =
          let b = given_bytes number (length buf) n buf (sym answer ∙ e) in
          subst (MinimalRecord (letters_at number) (entry_words number)) (sym (ap (take n) buffer ∙ b.1)) (record_claims number b.0)
