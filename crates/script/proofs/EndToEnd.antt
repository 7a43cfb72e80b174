-- Records end to end: the reader gives out each of them in turn, and then the end.
use mathlib.Core.Path.{◌≡◌, sym, ap, ap₂, subst, ◌∙◌}
use mathlib.Core.List.{List, [], ◌∷◌, ◌++◌, append_assoc}
use Prim.Native.Nat.{ℕ, zero, suc, ◌+◌, ◌-◌, ◌<◌, ◌≤◌}
use native.Mathlib.Omega.{arith}
use lib.ListN.{length, get_or, take, drop, length-append, get_or-append}
use lib.Seq.{take-append_seam, drop-append_seam}
use Rattle.record.specs.Record.{header, front_of, need_of, WellFormed}
use Rattle.std.specs.Prelude.{Ok, Some, None}
use Rattle.record.proofs.Refusals.{good_front, front_good, good_check}
use Rattle.script.specs.Script.{whole, part_at, after_part, read_to, part_of_index, bytes_at}
use Rattle.script.proofs.Parts.{end_met, whole_met}
use Rattle.script.proofs.Reading.{read_first, read_on}
use Rattle.script.proofs.WholeLaws.{need_same, front_same}

abbrev pub joined : List (List ℕ) → List ℕ
joined [] = []
joined (r ∷ rs) = r ++ joined rs

-- A record that passes rows 1 to 6.
pub record Framed (bs : List ℕ) : Type 0 where
  pub front : front_of bs ≡ Ok tt
  pub whole : length bs ≡ need_of bs

abbrev pub AllFramed : List (List ℕ) → Type 0
AllFramed [] = Unit {0}
AllFramed (r ∷ rs) = Framed r × AllFramed rs

pub formed_framed : (bs : List ℕ) → WellFormed bs → Framed bs
formed_framed bs good = let p = good_check bs good in record { front = front_good bs p.front; whole = p.whole }

-- The reader gives out a record at its call of an index.
pub record GivenOut (s : List ℕ) (index : ℕ) (bs : List ℕ) : Type 0 where
  pub start : ℕ
  pub next : ℕ
  pub whole : part_of_index s index ≡ Some (Ok (whole start next))
  pub bytes : bs ≡ bytes_at s start next

-- ---- a record in the middle of a script

module _ (r ys : List ℕ) (f : Framed r) where
  long : header ≤ length r
  long = (good_front r f.front).long

  front_bytes : (i : ℕ) → i < header → get_or (r ++ ys) i 0 ≡ get_or r i 0
  front_bytes i h = get_or-append r ys 0 i (omega (arith, long))

  module _ (xs : List ℕ) where
    stands_here : part_at (xs ++ (r ++ ys)) (length xs) ≡ Some (Ok (whole (length xs) (length xs + length r)))
    stands_here =
        let d : drop (length xs) (xs ++ (r ++ ys)) ≡ r ++ ys = drop-append_seam xs (r ++ ys) in
        let n : need_of (drop (length xs) (xs ++ (r ++ ys))) ≡ length r = ap need_of d ∙ need_same r (r ++ ys) front_bytes ∙ sym f.whole in
        let l : length (drop (length xs) (xs ++ (r ++ ys))) ≡ length r + length ys = ap length d ∙ length-append r ys in
        let more : length xs < length (xs ++ (r ++ ys)) = rw (length-append xs (r ++ ys), length-append r ys) (omega (arith, long)) in
        let front = front_same r (r ++ ys) front_bytes (rw (length-append r ys) (omega (arith, long))) f.front in
        sym (ap (λ k. Some (Ok (whole (length xs) (length xs + k)))) (sym n)
        ∙ whole_met (xs ++ (r ++ ys)) (length xs) more (ap front_of d ∙ front) (omega (arith, n, l)))

    bytes_here : bytes_at (xs ++ (r ++ ys)) (length xs) (length xs + length r) ≡ r
    bytes_here =
        let k : length xs + length r - length xs ≡ length r = omega arith in
        ap₂ take k (drop-append_seam xs (r ++ ys)) ∙ take-append_seam r ys

    module _ (index : ℕ) (here : read_to (xs ++ (r ++ ys)) index ≡ length xs) where
      whole_here : part_of_index (xs ++ (r ++ ys)) index ≡ Some (Ok (whole (length xs) (length xs + length r)))
      whole_here = ap (part_at (xs ++ (r ++ ys))) here ∙ stands_here

      given_here : GivenOut (xs ++ (r ++ ys)) index r
      given_here = record {
        start = length xs;
        next = length xs + length r;
        whole = whole_here;
        bytes = sym bytes_here;
      }

      read_here : read_to (xs ++ r ++ ys) (suc index) ≡ length (xs ++ r)
      read_here =
          ap (λ s. read_to s (suc index)) (append_assoc xs r ys)
          ∙ read_on (xs ++ (r ++ ys)) index
          ∙ ap (λ p. after_part p (read_to (xs ++ (r ++ ys)) index)) whole_here
          ∙ sym (length-append xs r)

-- ---- one record after another

-- The reader stands after xs, and the records rs follow.
given_from : (rs : List (List ℕ)) → AllFramed rs → (xs : List ℕ) (k : ℕ) → read_to (xs ++ joined rs) k ≡ length xs
    → (i : ℕ) → i < length rs → GivenOut (xs ++ joined rs) (k + i) (get_or rs i [])
given_from [] f xs k p i l = absurd (omega arith)
given_from (r ∷ rs) f xs k p zero l =
    let e : k ≡ k + zero = omega arith in
    subst (λ j. GivenOut (xs ++ (r ++ joined rs)) j r) e (given_here r (joined rs) f.0 xs k p)
given_from (r ∷ rs) f xs k p (suc i) l =
    let e : suc k + i ≡ k + suc i = omega arith in
    subst (λ s. GivenOut s (k + suc i) (get_or rs i [])) (append_assoc xs r (joined rs))
    (subst (λ j. GivenOut (xs ++ r ++ joined rs) j (get_or rs i [])) e (given_from rs f.1 (xs ++ r) (suc k) (read_here r (joined rs) f.0 xs k p) i (omega arith)))

ends_from : (rs : List (List ℕ)) → AllFramed rs → (xs : List ℕ) (k : ℕ) → read_to (xs ++ joined rs) k ≡ length xs → part_of_index (xs ++ joined rs) (k + length rs) ≡ None
ends_from [] f xs k p =
    let e : k + 0 ≡ k = omega arith in
    let l = length-append xs [] in
    ap (part_of_index (xs ++ [])) e ∙ sym (end_met (xs ++ []) (read_to (xs ++ []) k) (omega (arith, p, l)))
ends_from (r ∷ rs) f xs k p =
    let e : k + length (r ∷ rs) ≡ suc k + length rs = omega arith in
    ap (part_of_index (xs ++ (r ++ joined rs))) e
    ∙ subst (λ s. part_of_index s (suc k + length rs) ≡ None) (append_assoc xs r (joined rs)) (ends_from rs f.1 (xs ++ r) (suc k) (read_here r (joined rs) f.0 xs k p))

module _ (rs : List (List ℕ)) (f : AllFramed rs) where
  pub given_out : (i : ℕ) → i < length rs → GivenOut (joined rs) i (get_or rs i [])
  given_out i h =
      let e : 0 + i ≡ i = omega arith in
      subst (λ j. GivenOut (joined rs) j (get_or rs i [])) e (given_from rs f [] 0 (read_first (joined rs)) i h)

  pub ends_after : part_of_index (joined rs) (length rs) ≡ None
  ends_after =
      let e : length rs ≡ 0 + length rs = omega arith in
      ap (part_of_index (joined rs)) e ∙ ends_from rs f [] 0 (read_first (joined rs))
