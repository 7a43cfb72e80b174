-- What a service that writes does: row 12, and a record written afresh.
use mathlib.Core.Path.{◌≡◌, refl, ap, ap₂, ◌∙◌}
use mathlib.Core.Bool.{Bool, true, false, cond}
use mathlib.Core.List.{List}
use Prim.Native.Nat.{ℕ, ◌≤◌, ◌<◌}
use native.Mathlib.Omega.{arith}
use borrow.Author.Tests.{lt-ltb, le-ltb}
use lib.Dec.{ltb}
use lib.ListN.{length, take, drop}
use lib.Seq.{take-append-le, take_all}
use Rattle.record.specs.Record.{check_of, WellFormed}
use Rattle.record.specs.Rules.{Check, refusal, refusal_of}
use Rattle.record.specs.declared.Rule.{Rule}
use Rattle.record.specs.declared.Rule.TheVariants.{NoRoom}
use Rattle.record.specs.declared.Fault.{Fault}
use Rattle.record.specs.declared.Refusal.{Refusal}
use Rattle.std.specs.Prelude.{Ok, Err}
use Rattle.record.proofs.Refusals.{told_good}
use Rattle.record.specs.Outcome.{Outcome, refused, wrote, answer_of, buffer_of, checked, fit, rewrite_of}

module _ (room : ℕ) {l : ℕ} (out : List ℕ) (e : length out ≡ l) where
  pub fit_short : room < l → fit room out ≡ refused NoRoom 0 l
  unfolding fit
  fit_short h = rw (e, lt-ltb room l h)

  pub fit_done : l ≤ room → fit room out ≡ wrote out
  unfolding fit
  fit_done h = rw (e, le-ltb room l h)

module _ (bs : List ℕ) (room : ℕ) where
  pub rewrite_refused : {f : Fault} → check_of bs ≡ Err f → rewrite_of bs room ≡ refused f.rule 1 f.place
  unfolding rewrite_of
  rewrite_refused e = rw e

  pub rewrite_fit : WellFormed bs → rewrite_of bs room ≡ fit room bs
  unfolding rewrite_of
  rewrite_fit e = rw e

-- ---- what a service that wrote must have passed

pub checked_wrote : (c : Check) (which : ℕ) (rest : Outcome) (out : List ℕ) → checked c which rest ≡ wrote out → (c ≡ Ok tt) × (rest ≡ wrote out)
checked_wrote (Ok u) which rest out e = (refl, e)
checked_wrote (Err f) which rest out e = absurd (not_wrote f.rule which f.place out e)
  where
    not_wrote : (rule : Rule) (which place : ℕ) (out : List ℕ) → refused rule which place ≡ wrote out → ⊥
    not_wrote rule which place out e = let z : ◌≡◌ {A = ℕ} 0 1 = cc in omega arith

pub fit_wrote : (room : ℕ) (bytes out : List ℕ) → fit room bytes ≡ wrote out → out ≡ bytes
unfolding fit
fit_wrote room bytes out e = go (ltb room (length bytes)) e
  where
    go : (b : Bool) → cond b (refused NoRoom 0 (length bytes)) (wrote bytes) ≡ wrote out → out ≡ bytes
    go true q = let z : ◌≡◌ {A = ℕ} 0 1 = cc in absurd (omega arith)
    go false q = cc

-- The bytes written stand at the buffer's start.
wrote_take : (out buf : List ℕ) → take (length out) (buffer_of (wrote out) buf) ≡ out
wrote_take out buf = take-append-le (length out) out (drop (length out) buf) (omega arith) ∙ take_all (length out) out (omega arith)

pub outcome_take : (o : Outcome) (out buf : List ℕ) (n : ℕ) → o ≡ wrote out → n ≡ length out → take n (buffer_of o buf) ≡ out
outcome_take o out buf n h e = ap₂ (λ k x. take k (buffer_of x buf)) e h ∙ wrote_take out buf

-- What a granted call wrote stands at the buffer's start.
pub fit_bytes : (room n : ℕ) (bs buf : List ℕ) → answer_of (fit room bs) ≡ Ok n → take n (buffer_of (fit room bs) buf) ≡ bs
unfolding fit
fit_bytes room n bs buf e = go (ltb room (length bs)) e
  where
    go : (b : Bool) → answer_of (cond b (refused NoRoom 0 (length bs)) (wrote bs)) ≡ Ok n → take n (buffer_of (cond b (refused NoRoom 0 (length bs)) (wrote bs)) buf) ≡ bs
    go true e = let z : ◌≡◌ {A = ℕ} 0 1 = cc in absurd (omega arith)
    go false e = outcome_take (wrote bs) bs buf n refl (cc)

-- ---- a service's record that is refused

-- The refusal is the whole outcome; so the answer is that refusal, and the buffer stays.
pub checked_refused : (c : Check) (which : ℕ) (rest : Outcome) {r : Refusal} → Err r ≡ refusal_of c which → checked c which rest ≡ refused r.rule r.record r.place
checked_refused (Ok u) which rest e = let z : ◌≡◌ {A = ℕ} 0 1 = cc in absurd (omega arith)
checked_refused (Err f) which rest {r} e = let q : r ≡ refusal f.rule which f.place = cc in rw q

pub checked_good : (c : Check) (which : ℕ) (rest : Outcome) → Ok tt ≡ refusal_of c which → checked c which rest ≡ rest
checked_good c which rest e = ap (λ x. checked x which rest) (told_good c which e)

pub rewrite_told : (bs : List ℕ) (room : ℕ) {r : Refusal} → Err r ≡ refusal_of (check_of bs) 1 → rewrite_of bs room ≡ refused r.rule r.record r.place
unfolding rewrite_of
rewrite_told bs room e = checked_refused (check_of bs) 1 (fit room bs) e
