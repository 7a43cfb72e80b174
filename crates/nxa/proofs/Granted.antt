-- Which numbers a reply can have: 0, which grants, and those of the service's refusals, among which is no 0. So a host reads the answer
-- off the reply.
use mathlib.Core.Path.{◌≡◌, refl, sym, ap, subst, ◌∙◌}
use mathlib.Core.Bool.{Bool, true, false}
use mathlib.Core.Logic.{inl, inr}
use mathlib.Core.List.{List, [], ◌∷◌, ◌++◌}
use Prim.Native.Nat.{ℕ}
use borrow.Author.Tests.{ne_eqb}
use lib.Dec.{ltb, eqb}
use Rattle.automata.specs.Count.{Member}
use Rattle.record.specs.Record.{check_of, WellFormed, record_accepts}
use Rattle.record.specs.Outcome.{Outcome, refused, wrote, answer_of, fit, rewrite_of}
use Rattle.std.specs.Prelude.{Result, Ok, Err}
use Rattle.record.specs.Rules.{number_of, Check, refusal}
use Rattle.record.specs.declared.Refusal.{Refusal}
use Rattle.record.specs.declared.Rule.{Rule}
use Rattle.record.specs.declared.Rule.TheVariants.{TooShort, WrongMark, WrongVersion, States, Letters, WrongLength, StrayBit, UnlikeLetters, Product, Dimension, NoRoom, NoEntry, EmptyWord}
use Rattle.record.proofs.Numbers.{lacks, not_member, CheckAmong, check_numbers, check_numbers_lem, Among, row_among, fit_among, checked_among}
use Rattle.testing.specs.Testing.{Tested, tested_of, test_of}
use Rattle.minimal.specs.Minimal.{minimal_bytes, minimal_outcome, minimised_as}
use Rattle.minimal.specs.declared.Minimised.{Minimised}
use Rattle.catalogue.specs.Entries.{last, record_of, catalogue_of}
use Rattle.marking.specs.Marking.{mark_line, mark_outcome}
use Rattle.replies.specs.declared.Reply.{Reply}
use Rattle.replies.specs.Reply.{of_refusal, of_checked, of_written, of_tested, of_minimised, NumberIn, rule_of, told_in, written_in, tested_in, minimised_in}

-- ---- no refusal has number 0

abbrev pub NoZero : List ℕ → Type 0
NoZero ns = lacks ns 0 ≡ true

pub not_zero : (ns : List ℕ) (k : ℕ) → NoZero ns → Member k ns → eqb k 0 ≡ false
not_zero ns k e m = ne_eqb k 0 (λ z. not_member ns 0 e (subst (λ x. Member x ns) z m))

-- ---- the record check

module _ (bs : List ℕ) (r : Reply) (told : r ≡ of_checked (check_of bs)) where
  pub check_number : NumberIn (0 ∷ check_numbers) r
  check_number = subst (NumberIn (0 ∷ check_numbers)) (sym told) (go (check_of bs) (check_numbers_lem bs))
    where
      go : (c : Check) → CheckAmong check_numbers c → NumberIn (0 ∷ check_numbers) (of_checked c)
      go (Ok u) n = inl refl
      go (Err f) n = inr (n f refl)

  pub check_granted : r.number ≡ 0 → WellFormed bs
  check_granted e = go (check_of bs) (check_numbers_lem bs) (sym (ap (λ x. x.number) told) ∙ e)
    where
      go : (c : Check) → CheckAmong check_numbers c → (of_checked c).number ≡ 0 → c ≡ Ok tt
      go (Ok u) n z = refl
      go (Err f) n z = absurd (not_member check_numbers 0 refl (subst (λ k. Member k check_numbers) z (n f refl)))

  pub check_grants : WellFormed bs → r.number ≡ 0
  check_grants e = ap (λ x. x.number) told ∙ ap (λ c. (of_checked c).number) e

-- ---- the numbers of services that write

abbrev pub rewrite_numbers : List ℕ
rewrite_numbers = check_numbers ++ (12 ∷ [])

pub rewrite_among : (bs : List ℕ) (room : ℕ) → Among rewrite_numbers (rewrite_of bs room)
unfolding rewrite_of
rewrite_among bs room = checked_among bs 1 (fit room bs) (12 ∷ []) (λ good. fit_among room bs)

abbrev pub minimal_numbers : List ℕ
minimal_numbers = check_numbers ++ (12 ∷ [])

pub minimal_among : (bs : List ℕ) (room : ℕ) → Among minimal_numbers (minimal_outcome bs room)
unfolding minimal_outcome
minimal_among bs room = checked_among bs 1 _ (12 ∷ []) (λ good. fit_among room (minimal_bytes bs))

abbrev pub mark_numbers : List ℕ
mark_numbers = 12 ∷ []

pub mark_among : (s : List ℕ) (index room : ℕ) → Among mark_numbers (mark_outcome s index room)
unfolding mark_outcome
mark_among s index room = fit_among room (mark_line s index)

abbrev pub catalogue_numbers : List ℕ
catalogue_numbers = 13 ∷ 12 ∷ []

pub catalogue_among : (number room : ℕ) → Among catalogue_numbers (catalogue_of number room)
unfolding catalogue_of
catalogue_among j room = row_among (ltb last j) NoEntry 0 j (fit room (record_of j)) (12 ∷ []) (fit_among room (record_of j))

-- ---- the answer that a host reads off a reply

-- Of an answer x: it is the one that is read off its reply, and the reply's number is 0 or one of ns.
abbrev pub Readable : {X : Type 0} → (X → Reply) → (Reply → X) → List ℕ → X → Type 0
Readable of back ns x = (back (of x) ≡ x) × NumberIn (0 ∷ ns) (of x)

pub rule_number : (r : Rule) → rule_of (number_of r) ≡ r
rule_number TooShort = refl
rule_number WrongMark = refl
rule_number WrongVersion = refl
rule_number States = refl
rule_number Letters = refl
rule_number WrongLength = refl
rule_number StrayBit = refl
rule_number UnlikeLetters = refl
rule_number Product = refl
rule_number Dimension = refl
rule_number NoRoom = refl
rule_number NoEntry = refl
rule_number EmptyWord = refl

-- A refusal is read off its reply, whatever a grant would be.
pub refusal_readable : {X : Type 0} (ns : List ℕ) → NoZero ns → (x : X) (r : Refusal) → Member (number_of r.rule) ns → told_in x (of_refusal r) ≡ Err r
refusal_readable ns z x r m = rw (not_zero ns (number_of r.rule) z m, rule_number r.rule)

pub written_readable : (ns : List ℕ) → NoZero ns → (o : Outcome) (w : Result ℕ Refusal) → Among ns o → w ≡ answer_of o → Readable of_written written_in ns w
written_readable ns z o w h e = subst (Readable of_written written_in ns) (sym e) (go o h)
  where
    go : (o : Outcome) → Among ns o → Readable of_written written_in ns (answer_of o)
    go (refused rule which place) m = (refusal_readable ns z _ (refusal rule which place) m, inr m)
    go (wrote out) m = (refl, inl refl)

pub minimised_readable : (ns : List ℕ) → NoZero ns → (o : Outcome) (d : ℕ) (m : Result Minimised Refusal) → Among ns o → m ≡ minimised_as d (answer_of o) → Readable of_minimised minimised_in ns m
minimised_readable ns z o d m h e = subst (Readable of_minimised minimised_in ns) (sym e) (go o h)
  where
    go : (o : Outcome) → Among ns o → Readable of_minimised minimised_in ns (minimised_as d (answer_of o))
    go (refused rule which place) m = (refusal_readable ns z _ (refusal rule which place) m, inr m)
    go (wrote out) m = (refl, inl refl)

pub tested_readable : (bs w : List ℕ) (t : Tested) → t ≡ test_of bs w → Readable of_tested tested_in check_numbers t
unfolding test_of
tested_readable bs w t e = subst (Readable of_tested tested_in check_numbers) (sym e) (go (check_of bs) (check_numbers_lem bs) (record_accepts bs w))
  where
    go : (c : Check) → CheckAmong check_numbers c → (b : Bool) → Readable of_tested tested_in check_numbers (tested_of c b)
    go (Ok u) n true = (refl, inl refl)
    go (Ok u) n false = (refl, inl refl)
    go (Err f) n b = let m = n f refl in (refusal_readable check_numbers refl _ (refusal f.rule 1 f.place) m, inr m)

-- An export promises what its service does, its claims of the answer that a host reads off the reply, and its numbers.
pub told : {X : Type 0} (of : X → Reply) (back : Reply → X) (ns : List ℕ) (x y : X) (r : Reply) (Buffer : Type 0) (Claims : X → Type 0)
    → r ≡ of x → Readable of back ns x → (x ≡ y) × (Buffer × Claims x) → (r ≡ of y) × (NumberIn (0 ∷ ns) r × (Buffer × Claims (back r)))
told of back ns x y r Buffer Claims e b p =
    (e ∙ ap of p.0, (subst (NumberIn (0 ∷ ns)) (sym e) b.1, (p.1.0, subst Claims (sym (ap back e ∙ b.0)) p.1.1)))
