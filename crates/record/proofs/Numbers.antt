-- The numbers of refusals: those of the record check are 1 to 7, and 1 comes only with fewer than 7 bytes; those of an outcome are the
-- numbers of its rows.
use mathlib.Core.Path.{◌≡◌, refl, sym, ap, subst, ◌∙◌}
use mathlib.Core.Bool.{Bool, true, false, not, ◌&&◌, ◌||◌, cond, true≢false, false≢true}
use mathlib.Core.Logic.{inl, inr}
use mathlib.Core.List.{List, [], ◌∷◌, ◌++◌}
use Prim.Native.Nat.{ℕ, zero, suc, ◌+◌, ◌*◌, ◌^◌, ◌<◌}
use native.Mathlib.Decide.{dec_lt}
use native.Mathlib.Omega.{arith}
use borrow.Author.Tests.{le-ltb, eqb-true}
use lib.Dec.{ltb, leb, eqb}
use lib.ListN.{length, get_or}
use Rattle.automata.specs.Count.{Member}
use Rattle.automata.specs.WordList.{all_of}
use Rattle.automata.proofs.Count.{mem_left, mem_right}
use Rattle.automata.proofs.WordList.{all_of_lem}
use Rattle.automata.proofs.Xor.{eqb_same}
use Rattle.record.specs.Bytes.{number}
use Rattle.record.specs.Record.{version, max_states, max_letters, row_bytes, header, initial_at, states_of, letters_of, need_of, row, and_then, front_of, stray_from, check_of, WellFormed}
use Rattle.record.specs.Outcome.{Outcome, refused, wrote, checked, fit}
use Rattle.record.specs.Rules.{number_of, Check, fault}
use Rattle.record.specs.declared.Rule.{Rule}
use Rattle.record.specs.declared.Rule.TheVariants.{TooShort, WrongMark, WrongVersion, States, Letters, WrongLength, StrayBit, NoRoom}
use Rattle.record.specs.declared.Fault.{Fault}
use Rattle.std.specs.Prelude.{Ok, Err}
use Rattle.record.proofs.Refusals.{short_met, front_met}

-- ---- whether a number is in a list is computed

abbrev pub lacks : List ℕ → ℕ → Bool
lacks ns k = all_of (λ n. not (eqb n k)) ns

pub not_member : (ns : List ℕ) (k : ℕ) → lacks ns k ≡ true → Member k ns → ⊥
not_member ns k e m =
    let z = all_of_lem (λ n. not (eqb n k)) ns e k m in
    false≢true (sym (ap not (eqb_same k)) ∙ z)

pub is_member : (ns : List ℕ) (k : ℕ) → lacks ns k ≡ false → Member k ns
is_member [] k e = absurd (true≢false e)
is_member (n ∷ ns) k e = go (eqb n k) refl e (is_member ns k)
  where
    go : (b : Bool) → eqb n k ≡ b → not b && lacks ns k ≡ false → (lacks ns k ≡ false → Member k ns) → Member k (n ∷ ns)
    go true h q rest = inl (sym (eqb-true n k h))
    go false h q rest = inr (rest q)

-- ---- the record check

-- The number of a refusal has a property.
abbrev pub Numbered : (ℕ → Type 0) → Check → Type 0
Numbered P c = (f : Fault) → c ≡ Err f → P (number_of f.rule)

-- It is one of a list.
abbrev pub CheckAmong : List ℕ → Check → Type 0
CheckAmong ns = Numbered (λ k. Member k ns)

-- The numbers after the first.
abbrev later_numbers : List ℕ
later_numbers = 2 ∷ 3 ∷ 4 ∷ 5 ∷ 6 ∷ 7 ∷ []

abbrev pub check_numbers : List ℕ
check_numbers = 1 ∷ later_numbers

module _ (P : ℕ → Type 0) where
  good_numbered : Numbered P (Ok tt)
  good_numbered f e = let z : ◌≡◌ {A = ℕ} 0 1 = cc in absurd (omega arith)

  row_numbered : (b : Bool) (rule : Rule) (place : ℕ) (rest : Check) → (b ≡ true → P (number_of rule)) → Numbered P rest → Numbered P (row b rule place rest)
  row_numbered true rule place rest h r f e =
      let s : rule ≡ f.rule = cc in
      subst (λ x. P (number_of x)) s (h refl)
  row_numbered false rule place rest h r f e = r f e

  then_numbered : (c rest : Check) → Numbered P c → Numbered P rest → Numbered P (and_then c rest)
  then_numbered (Ok u) rest n r = r
  then_numbered (Err f) rest n r = n

  stray_numbered : P 7 → (w n : ℕ) (bs : List ℕ) (k p : ℕ) → Numbered P (stray_from w n bs k p)
  unfolding stray_from
  stray_numbered h w n bs zero p = good_numbered
  stray_numbered h w n bs (suc k) p = row_numbered (leb (2 ^ n) (number w bs p)) StrayBit p (stray_from w n bs k (p + w)) (λ e. h) (stray_numbered h w n bs k (p + w))

  -- 1 where row 1 is met, else 2 to 7.
  module _ (bs : List ℕ) (one : ltb (length bs) header ≡ true → P 1) (others : (k : ℕ) → Member k later_numbers → P k) where
    front_numbered : Numbered P (front_of bs)
    unfolding front_of
    front_numbered =
        row_numbered (ltb (length bs) header) TooShort (length bs) _ one
        (row_numbered (not (eqb (get_or bs 0 0) 0x4E)) WrongMark 0 _ (λ e. others 2 (is_member later_numbers 2 refl))
        (row_numbered (not (eqb (get_or bs 1 0) 0x58)) WrongMark 1 _ (λ e. others 2 (is_member later_numbers 2 refl))
        (row_numbered (not (eqb (get_or bs 2 0) 0x41)) WrongMark 2 _ (λ e. others 2 (is_member later_numbers 2 refl))
        (row_numbered (not (eqb (number 2 bs 3) version)) WrongVersion 3 _ (λ e. others 3 (is_member later_numbers 3 refl))
        (row_numbered (ltb max_states (states_of bs)) States 5 _ (λ e. others 4 (is_member later_numbers 4 refl))
        (row_numbered (eqb (letters_of bs) 0 || ltb max_letters (letters_of bs)) Letters 6 (Ok tt) (λ e. others 5 (is_member later_numbers 5 refl)) good_numbered))))))

    check_by : Numbered P (check_of bs)
    unfolding check_of
    check_by =
        then_numbered (front_of bs) _ front_numbered
        (row_numbered (not (eqb (length bs) (need_of bs))) WrongLength (need_of bs) _ (λ e. others 6 (is_member later_numbers 6 refl))
        (stray_numbered (others 7 (is_member later_numbers 7 refl)) row_bytes (states_of bs) bs (2 + letters_of bs * states_of bs) initial_at))

module _ (bs : List ℕ) where
  pub front_numbers : CheckAmong check_numbers (front_of bs)
  front_numbers = front_numbered (λ k. Member k check_numbers) bs (λ e. inl refl) (λ k m. inr m)

  pub check_numbers_lem : CheckAmong check_numbers (check_of bs)
  check_numbers_lem = check_by (λ k. Member k check_numbers) bs (λ e. inl refl) (λ k m. inr m)

-- Refusal 1 exactly with fewer than 7 bytes, its place their number.
module _ (bs : List ℕ) where
  pub check_short : length bs < header → check_of bs ≡ Err (fault TooShort (length bs))
  check_short h =
      let e = sym (short_met bs h) in
      sym (front_met bs e) ∙ e

  pub short_check : (place : ℕ) → check_of bs ≡ Err (fault TooShort place) → (length bs < header) × (place ≡ length bs)
  short_check place e = go (dec_lt (length bs) header)
    where
      go : Dec (length bs < header) → (length bs < header) × (place ≡ length bs)
      go (yes h) =
          let q : fault TooShort place ≡ fault TooShort (length bs) = cc (sym e ∙ check_short h) in
          (h, ap (λ f. f.place) q)
      go (no h) =
          let passed = le-ltb (length bs) header (omega arith) in
          absurd (not_member later_numbers 1 refl (check_by (λ k. Member k later_numbers) bs (λ t. absurd (false≢true (sym passed ∙ t))) (λ k m. m) (fault TooShort place) e))

-- ---- outcomes

-- An outcome refuses only with numbers of a list.
abbrev pub Among : List ℕ → Outcome → Type 0
Among ns (refused rule which place) = Member (number_of rule) ns
Among ns (wrote out) = Unit {0}

-- A number that is not in the list never comes.
pub not_among : (ns : List ℕ) (o : Outcome) → Among ns o → (rule : Rule) (which place : ℕ) → lacks ns (number_of rule) ≡ true → o ≡ refused rule which place → ⊥
not_among ns o h rule which place e q = not_member ns (number_of rule) e (subst (Among ns) q h)

-- A row, then the rest.
pub row_among : (b : Bool) (rule : Rule) (which place : ℕ) (rest : Outcome) (ns : List ℕ) → Among ns rest → Among (number_of rule ∷ ns) (cond b (refused rule which place) rest)
row_among true rule which place rest ns h = inl refl
row_among false rule which place (refused other w p) ns h = inr h
row_among false rule which place (wrote out) ns h = tt

pub fit_among : (room : ℕ) (out : List ℕ) → Among (12 ∷ []) (fit room out)
unfolding fit
fit_among room out = row_among (ltb room (length out)) NoRoom 0 (length out) (wrote out) [] tt

-- The check of a record, then what follows where it passes.
pub checked_among : (bs : List ℕ) (which : ℕ) (rest : Outcome) (ns : List ℕ) → (WellFormed bs → Among ns rest) → Among (check_numbers ++ ns) (checked (check_of bs) which rest)
checked_among bs which rest ns h = go (check_of bs) refl rest h
  where
    go : (c : Check) → check_of bs ≡ c → (rest : Outcome) → (WellFormed bs → Among ns rest) → Among (check_numbers ++ ns) (checked c which rest)
    go (Err f) e rest h = mem_left (number_of f.rule) check_numbers ns (check_numbers_lem bs f e)
    go (Ok u) e (refused rule w place) h = mem_right (number_of rule) check_numbers ns (h e)
    go (Ok u) e (wrote out) h = tt
