-- The record check: what each row refuses where those before it pass, and what a record that passes is.
use mathlib.Core.Path.{◌≡◌, refl, sym, ap, ◌∙◌}
use mathlib.Core.List.{List}
use mathlib.Core.Bool.{Bool, true, false, not, ◌||◌}
use Prim.Native.Nat.{ℕ, zero, suc, ◌+◌, ◌-◌, ◌*◌, ◌/◌, ◌≤◌, ◌<◌, ◌^◌}
use native.Mathlib.Nat.{add-zero, mul-zero, mul-suc, mul-le-mul}
use native.Mathlib.Omega.{arith}
use borrow.Author.Tests.{lt-ltb, le-ltb, le-leb, lt-leb, eq-eqb, ne_eqb, ltb-false, leb-false, eqb-true, eqb-false, not-false}
use lib.ListN.{length, get_or}
use lib.Dec.{ltb, leb, eqb}
use Rattle.record.specs.Bytes.{number}
use Rattle.record.specs.Record.{version, max_states, max_letters, row_bytes, header, initial_at, states_of, letters_of, row, and_then, front_of, need_of, stray_from, check_of, WellFormed}
use Rattle.record.specs.Rules.{Check, fault, refusal, refusal_of}
use Rattle.record.specs.declared.Rule.{Rule}
use Rattle.record.specs.declared.Rule.TheVariants.{TooShort, WrongMark, WrongVersion, States, Letters, WrongLength, StrayBit}
use Rattle.record.specs.declared.Fault.{Fault}
use Rattle.record.specs.declared.Refusal.{Refusal}
use Rattle.std.specs.Prelude.{Result, Ok, Err, IsErrAnd}
use Rattle.std.proofs.lemmas.Result.{err_from_is_err_and}

-- The rows of a record are at most 256.
pub area : (a n : ℕ) → a ≤ max_letters → n ≤ max_states → a * n ≤ 256
area a n ha hn = mul-le-mul ha hn

-- ---- rows 1 to 5

module _ (bs : List ℕ) where
  pub short_met : length bs < header → Err (fault TooShort (length bs)) ≡ front_of bs
  unfolding front_of
  short_met h = simp (lt-ltb (length bs) header h)

  module _ (long : header ≤ length bs) where
    pub mark₀_met : (get_or bs 0 0 ≡ 0x4E → ⊥) → Err (fault WrongMark 0) ≡ front_of bs
    unfolding front_of
    mark₀_met h = simp (le-ltb (length bs) header long, ne_eqb (get_or bs 0 0) 0x4E h)

    module _ (m₀ : get_or bs 0 0 ≡ 0x4E) where
      pub mark₁_met : (get_or bs 1 0 ≡ 0x58 → ⊥) → Err (fault WrongMark 1) ≡ front_of bs
      unfolding front_of
      mark₁_met h = simp (le-ltb (length bs) header long, eq-eqb (get_or bs 0 0) 0x4E m₀, ne_eqb (get_or bs 1 0) 0x58 h)

      module _ (m₁ : get_or bs 1 0 ≡ 0x58) where
        pub mark₂_met : (get_or bs 2 0 ≡ 0x41 → ⊥) → Err (fault WrongMark 2) ≡ front_of bs
        unfolding front_of
        mark₂_met h =
            simp
            (le-ltb (length bs) header long, eq-eqb (get_or bs 0 0) 0x4E m₀, eq-eqb (get_or bs 1 0) 0x58 m₁, ne_eqb (get_or bs 2 0) 0x41 h)

        module _ (m₂ : get_or bs 2 0 ≡ 0x41) where
          -- Past rows 1 and 2 the sizes decide.
          past_mark : row (not (eqb (number 2 bs 3) version)) WrongVersion 3 (row (ltb max_states (states_of bs)) States 5 (row (eqb (letters_of bs) 0 || ltb max_letters (letters_of bs)) Letters 6 (Ok tt))) ≡ front_of bs
          unfolding front_of
          past_mark =
              simp
              (le-ltb (length bs) header long, eq-eqb (get_or bs 0 0) 0x4E m₀, eq-eqb (get_or bs 1 0) 0x58 m₁, eq-eqb (get_or bs 2 0) 0x41 m₂)

          pub version_met : (number 2 bs 3 ≡ version → ⊥) → Err (fault WrongVersion 3) ≡ front_of bs
          version_met h = rw (← past_mark) (simp (ne_eqb (number 2 bs 3) version h))

          module _ (v : number 2 bs 3 ≡ version) where
            pub states_met : max_states < states_of bs → Err (fault States 5) ≡ front_of bs
            states_met h = rw (← past_mark) (simp (eq-eqb (number 2 bs 3) version v, lt-ltb max_states (states_of bs) h))

            module _ (n : states_of bs ≤ max_states) where
              pub no_letter_met : letters_of bs ≡ 0 → Err (fault Letters 6) ≡ front_of bs
              no_letter_met h =
                  rw (← past_mark) (simp (eq-eqb (number 2 bs 3) version v, le-ltb max_states (states_of bs) n, eq-eqb (letters_of bs) 0 h))

              module _ (some : letters_of bs ≡ 0 → ⊥) where
                pub letters_met : max_letters < letters_of bs → Err (fault Letters 6) ≡ front_of bs
                letters_met h =
                    rw (← past_mark)
                    (simp
                    (eq-eqb (number 2 bs 3) version v, le-ltb max_states (states_of bs) n, ne_eqb (letters_of bs) 0 some, lt-ltb max_letters (letters_of bs) h))

                pub front_pass : letters_of bs ≤ max_letters → Ok tt ≡ front_of bs
                front_pass h =
                    rw (← past_mark)
                    (simp
                    (eq-eqb (number 2 bs 3) version v, le-ltb max_states (states_of bs) n, ne_eqb (letters_of bs) 0 some, le-ltb max_letters (letters_of bs) h))

-- What a record that passes rows 1 to 5 is.
pub record Front (bs : List ℕ) : Type 0 where
  pub long : header ≤ length bs
  pub mark₀ : get_or bs 0 0 ≡ 0x4E
  pub mark₁ : get_or bs 1 0 ≡ 0x58
  pub mark₂ : get_or bs 2 0 ≡ 0x41
  pub version : number 2 bs 3 ≡ version
  pub states : states_of bs ≤ max_states
  pub some : 1 ≤ letters_of bs
  pub letters : letters_of bs ≤ max_letters

pub front_good : (bs : List ℕ) → Front bs → front_of bs ≡ Ok tt
front_good bs f =
    sym
    (front_pass bs f.long f.mark₀ f.mark₁ f.mark₂ f.version f.states (λ e. omega (arith, f.some)) f.letters)

-- A row that lets a record pass: its condition is not met, and the rows after it pass.
row_good : (b : Bool) (rule : Rule) (place : ℕ) (rest : Check) → row b rule place rest ≡ Ok tt → (b ≡ false) × (rest ≡ Ok tt)
row_good true rule place rest e = let z : ◌≡◌ {A = ℕ} 0 1 = cc in absurd (omega arith)
row_good false rule place rest e = (refl, e)

or_false : (a b : Bool) → (a || b) ≡ false → (a ≡ false) × (b ≡ false)
or_false true b e = let z : ◌≡◌ {A = ℕ} 0 1 = cc in absurd (omega arith)
or_false false b e = (refl, e)

pub good_front : (bs : List ℕ) → front_of bs ≡ Ok tt → Front bs
unfolding front_of
good_front bs e =
    let l = row_good _ _ _ _ e in
    let m₀ = row_good _ _ _ _ l.1 in
    let m₁ = row_good _ _ _ _ m₀.1 in
    let m₂ = row_good _ _ _ _ m₁.1 in
    let v = row_good _ _ _ _ m₂.1 in
    let n = row_good _ _ _ _ v.1 in
    let a = row_good _ _ _ _ n.1 in
    let ab = or_false _ _ a.0 in
    let some : letters_of bs ≡ 0 → ⊥ = eqb-false _ _ ab.0 in
    record {
      long = ltb-false _ _ l.0;
      mark₀ = eqb-true _ _ (not-false _ m₀.0);
      mark₁ = eqb-true _ _ (not-false _ m₁.0);
      mark₂ = eqb-true _ _ (not-false _ m₂.0);
      version = eqb-true _ _ (not-false _ v.0);
      states = ltb-false _ _ n.0;
      some = omega arith;
      letters = ltb-false _ _ ab.1;
    }

-- ---- row 7, a field at a time

-- How many fields stand before offset p.
abbrev pub passed : ℕ → ℕ
passed p = (p - initial_at) / row_bytes

pub passed_next : (p : ℕ) → initial_at ≤ p → passed (p + row_bytes) ≡ passed p + 1
passed_next p h = omega arith

-- i of k fields have passed, and the next is at offset p.
module _ (w n : ℕ) (bs : List ℕ) {i k : ℕ} (p : ℕ) where
  pub stray_met : i < k → 2 ^ n ≤ number w bs p → stray_from w n bs (k - i) p ≡ Err (fault StrayBit p)
  unfolding stray_from
  stray_met h s =
      let e : k - i ≡ suc (k - suc i) = omega arith in
      rw e (simp (le-leb (2 ^ n) (number w bs p) s))

  pub stray_pass : i < k → number w bs p < 2 ^ n → stray_from w n bs (k - i) p ≡ stray_from w n bs (k - (i + 1)) (p + w)
  unfolding stray_from
  stray_pass h s =
      let e : k - i ≡ suc (k - (i + 1)) = omega arith in
      rw e (simp (lt-leb (2 ^ n) (number w bs p) s))

  pub stray_done : k ≤ i → stray_from w n bs (k - i) p ≡ Ok tt
  unfolding stray_from
  stray_done h =
      let e : k - i ≡ 0 = omega arith in
      rw e

-- Fields that pass have no bit at n or above, and the other way round.
stray_good : (w n : ℕ) (bs : List ℕ) (k p : ℕ) → stray_from w n bs k p ≡ Ok tt → (j : ℕ) → j < k → number w bs (p + w * j) < 2 ^ n
unfolding stray_from
stray_good w n bs zero p e j h = absurd (omega arith)
stray_good w n bs (suc k) p e zero h =
    let r = row_good (leb (2 ^ n) (number w bs p)) _ _ _ e in
    rw (mul-zero, add-zero) (leb-false (2 ^ n) (number w bs p) r.0)
stray_good w n bs (suc k) p e (suc j) h =
    let r = row_good (leb (2 ^ n) (number w bs p)) StrayBit p (stray_from w n bs k (p + w)) e in
    let s : p + w * suc j ≡ p + w + w * j = rw mul-suc (omega arith) in
    rw s (stray_good w n bs k (p + w) r.1 j (omega arith))

-- Fields that do not pass are refused by row 7.
pub stray_seven : (w n : ℕ) (bs : List ℕ) (k p : ℕ) (f : Fault) → stray_from w n bs k p ≡ Err f → f.rule ≡ StrayBit
unfolding stray_from
stray_seven w n bs zero p f e = let z : ◌≡◌ {A = ℕ} 0 1 = cc in absurd (omega arith)
stray_seven w n bs (suc k) p f e = go (leb (2 ^ n) (number w bs p)) e (stray_seven w n bs k (p + w) f)
  where
    go : (b : Bool) → row b StrayBit p (stray_from w n bs k (p + w)) ≡ Err f → (stray_from w n bs k (p + w) ≡ Err f → f.rule ≡ StrayBit) → f.rule ≡ StrayBit
    go true r rest = cc
    go false r rest = rest r

pub good_stray : (w n : ℕ) (bs : List ℕ) (k p : ℕ) → ((j : ℕ) → j < k → number w bs (p + w * j) < 2 ^ n) → stray_from w n bs k p ≡ Ok tt
unfolding stray_from
good_stray w n bs zero p h = refl
good_stray w n bs (suc k) p h =
    let first : number w bs p < 2 ^ n = rw (mul-zero, add-zero) at (h 0 (omega arith)) in
    let rest : (j : ℕ) → j < k → number w bs (p + w + w * j) < 2 ^ n =
    λ j l. let s : p + w * suc j ≡ p + w + w * j = rw mul-suc (omega arith) in rw s at (h (suc j) (omega arith)) in
    simp (lt-leb (2 ^ n) (number w bs p) first) (good_stray w n bs k (p + w) rest)

-- ---- rows 1 to 7

-- Of two checks in a row the first decides where it refuses, and the second where the first passes.
refuses : {c : Check} {f : Fault} (rest : Check) → c ≡ Err f → and_then c rest ≡ c
refuses rest e = rw e

passes : {c rest : Check} → c ≡ Ok tt → and_then c rest ≡ rest
passes e = rw e

module _ (bs : List ℕ) where
  pub front_met : {f : Fault} → front_of bs ≡ Err f → front_of bs ≡ check_of bs
  unfolding check_of
  front_met e = sym (refuses _ e)

  module _ (front : front_of bs ≡ Ok tt) where
    pub length_met : (length bs ≡ need_of bs → ⊥) → Err (fault WrongLength (need_of bs)) ≡ check_of bs
    unfolding check_of
    length_met h = sym (passes front ∙ simp (ne_eqb (length bs) (need_of bs) h))

    pub fields_met : length bs ≡ need_of bs → stray_from row_bytes (states_of bs) bs (2 + letters_of bs * states_of bs) initial_at ≡ check_of bs
    unfolding check_of
    fields_met h = sym (passes front ∙ simp (eq-eqb (length bs) (need_of bs) h))

-- What a well-formed record is: the bounds that rows 1 to 7 leave.
pub record Passed (bs : List ℕ) : Type 0 where
  pub front : Front bs
  pub whole : length bs ≡ need_of bs
  pub below : (j : ℕ) → j < 2 + letters_of bs * states_of bs → number row_bytes bs (initial_at + row_bytes * j) < 2 ^ states_of bs

both_good : (c rest : Check) → and_then c rest ≡ Ok tt → (c ≡ Ok tt) × (rest ≡ Ok tt)
both_good (Ok u) rest e = (refl, e)
both_good (Err f) rest e = let z : ◌≡◌ {A = ℕ} 0 1 = cc in absurd (omega arith)

pub good_check : (bs : List ℕ) → WellFormed bs → Passed bs
unfolding check_of
good_check bs e =
    let f = both_good _ _ e in
    let w = row_good _ _ _ _ f.1 in
    record {
      front = good_front bs f.0;
      whole = eqb-true _ _ (not-false _ w.0);
      below = stray_good row_bytes (states_of bs) bs (2 + letters_of bs * states_of bs) initial_at w.1;
    }

pub check_good : (bs : List ℕ) → Passed bs → WellFormed bs
check_good bs p =
    sym (fields_met bs (front_good bs p.front) p.whole)
    ∙ good_stray row_bytes (states_of bs) bs (2 + letters_of bs * states_of bs) initial_at p.below

-- ---- the check of a service's record

pub told_good : (c : Check) (which : ℕ) → Ok tt ≡ refusal_of c which → c ≡ Ok tt
told_good (Ok u) which e = refl
told_good (Err f) which e = let z : ◌≡◌ {A = ℕ} 0 1 = cc in absurd (omega arith)

pub told_fault : (c : Check) (which : ℕ) {r : Refusal} → Err r ≡ refusal_of c which → (f : Fault) × (c ≡ Err f) × (r ≡ refusal f.rule which f.place)
told_fault (Ok u) which e = let z : ◌≡◌ {A = ℕ} 0 1 = cc in absurd (omega arith)
told_fault (Err f) which e = (f, refl, cc)

-- Equal refusals have equal parts.
pub same_error : {T E : Type 0} {x y : E} → ◌≡◌ {A = Result T E} (Err x) (Err y) → x ≡ y
same_error e = cc

-- What `?` returns is the error that it met.
pub returned : {T E : Type 0} (r : Result T E) {e : E} → IsErrAnd r (λ y. y ≡ e) → r ≡ Err e
returned r h = let p = err_from_is_err_and r h in p.1 ∙ ap Err p.2
