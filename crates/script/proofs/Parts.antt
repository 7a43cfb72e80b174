-- What stands at a position of a script: the end and a whole record, what a whole record is, and the numbers of refusals.
use mathlib.Core.Path.{◌≡◌, refl, sym, ap, ◌∙◌}
use mathlib.Core.Bool.{Bool, true, false, cond}
use mathlib.Core.List.{List}
use Prim.Native.Nat.{ℕ, ◌+◌, ◌≤◌, ◌<◌}
use native.Mathlib.Omega.{arith}
use borrow.Author.Tests.{le-ltb, le-leb, lt-leb, ltb-false, leb-false}
use lib.Dec.{ltb, leb}
use lib.ListN.{length, drop, length-drop}
use Rattle.std.specs.Prelude.{Ok, Err, Some, None}
use Rattle.automata.specs.Count.{Member}
use Rattle.record.specs.Record.{front_of, need_of, rows_at}
use Rattle.record.specs.Rules.{number_of, Check, fault}
use Rattle.record.specs.declared.Rule.TheVariants.{WrongLength}
use Rattle.record.proofs.Numbers.{is_member, CheckAmong, check_numbers, front_numbers}
use Rattle.script.specs.Script.{Part, whole, passed, part_of, part_at}

module _ (s : List ℕ) (at : ℕ) where
  pub end_met : length s ≤ at → None ≡ part_at s at
  unfolding part_at
  end_met h = simp (le-leb (length s) at h)

  part_left : at < length s → Some (part_of (drop at s) at) ≡ part_at s at
  unfolding part_at
  part_left more = simp (lt-leb (length s) at more)

  pub whole_met : at < length s → front_of (drop at s) ≡ Ok tt → need_of (drop at s) ≤ length (drop at s)
      → Some (Ok (whole at (at + need_of (drop at s)))) ≡ part_at s at
  unfolding part_of
  whole_met more front h = sym (rw front (simp (le-ltb (length (drop at s)) (need_of (drop at s)) h))) ∙ part_left more

-- ---- a whole record

-- It starts at the position, passes rows 1 to 5, is as long as its sizes need, and ends within the script.
pub record Stands (s : List ℕ) (at start next : ℕ) : Type 0 where
  pub here : start ≡ at
  pub front : front_of (drop start s) ≡ Ok tt
  pub need : next ≡ start + need_of (drop start s)
  pub long : start + rows_at ≤ next
  pub within : next ≤ length s

pub whole_stands : (s : List ℕ) (at start next : ℕ) → part_at s at ≡ Some (Ok (whole start next)) → Stands s at start next
unfolding part_at part_of
whole_stands s at start next e = go (leb (length s) at) refl (front_of left) refl (ltb (length left) (need_of left)) refl e
  where
    left : List ℕ
    left = drop at s

    go : (ends : Bool) → leb (length s) at ≡ ends → (c : Check) → front_of left ≡ c → (short : Bool) → ltb (length left) (need_of left) ≡ short
        → cond ends None (Some (passed c (cond short (Err (fault WrongLength (need_of left))) (Ok (whole at (at + need_of left)))))) ≡ Some (Ok (whole start next))
        → Stands s at start next
    go true more c front short room q = absurd (let z : ◌≡◌ {A = ℕ} 0 1 = cc in omega arith)
    go false more (Err f) front short room q = absurd (let z : ◌≡◌ {A = ℕ} 0 1 = cc in omega arith)
    go false more (Ok u) front true room q = absurd (let z : ◌≡◌ {A = ℕ} 0 1 = cc in omega arith)
    go false more (Ok u) front false room q =
        let w : whole at (at + need_of left) ≡ whole start next = cc in
        let here : start ≡ at = sym (ap (λ x. x.start) w) in
        let end : next ≡ at + need_of left = sym (ap (λ x. x.next) w) in
        let l = length-drop at s in
        let m = leb-false _ _ more in
        let n = ltb-false _ _ room in
        record {
          here = here;
          front = rw here front;
          need = rw here end;
          long = omega arith;
          within = omega arith;
        }

-- ---- the numbers of refusals

abbrev pub PartAmong : List ℕ → Part → Type 0
PartAmong ns (Some (Ok w)) = Unit {0}
PartAmong ns (Some (Err f)) = Member (number_of f.rule) ns
PartAmong ns None = Unit {0}

-- They are those of the record check.
pub part_numbers : (s : List ℕ) (at : ℕ) → PartAmong check_numbers (part_at s at)
unfolding part_at part_of
part_numbers s at = go (leb (length s) at) (front_of left) (front_numbers left) (ltb (length left) (need_of left))
  where
    left : List ℕ
    left = drop at s

    go : (ends : Bool) (c : Check) → CheckAmong check_numbers c → (short : Bool)
        → PartAmong check_numbers (cond ends None (Some (passed c (cond short (Err (fault WrongLength (need_of left))) (Ok (whole at (at + need_of left)))))))
    go true c n short = tt
    go false (Err f) n short = n f refl
    go false (Ok u) n true = is_member check_numbers 6 refl
    go false (Ok u) n false = tt
