-- Records and automata: writing what was read gives the same bytes, and reading what was written the same automaton.
use mathlib.Core.Path.{◌≡◌, refl, sym, ap, ◌∙◌}
use mathlib.Core.List.{List, [], ◌∷◌, ◌++◌}
use Prim.Native.Nat.{ℕ, zero, suc, ◌+◌, ◌*◌, ◌^◌, ◌≤◌, ◌<◌}
use native.Mathlib.Nat.{lt_of_lt_of_le}
use native.Mathlib.Omega.{arith}
use lib.Pow.{pow_pos, pow_mono}
use lib.ListN.{length, get_or, take, drop}
use lib.Seq.{take-suc, take-add, take_all, drop-drop}
use Rattle.automata.specs.Automaton.{Automaton}
use Rattle.automata.specs.Mask.{bit_of, mask_of}
use Rattle.automata.specs.Minimal.{SameBits}
use Rattle.automata.specs.WordList.{join_below}
use Rattle.automata.specs.Fields.{rows_of, fields}
use Rattle.automata.proofs.Mask.{mask_lt, mask_bit, mask_of_bits}
use Rattle.automata.proofs.Fields.{rows_at_lem, rows_length, rows_same}
use Rattle.record.specs.Bytes.{number, bytes_of, all_bytes, AllBelow}
use Rattle.record.specs.Record.{max_states, max_letters, row_bytes, initial_at, final_at, rows_at, length_of, states_of, letters_of, row_at, head_of, encode, automaton_of, WellFormed}
use Rattle.record.proofs.Bytes.{number_2, length_all_bytes, bytes_of_below, number_written, bytes_of_number, all_bytes_numbers, numbers}
use Rattle.record.proofs.RowList.{rows_flat, row_lt, below_append, rows_below}
use Rattle.record.proofs.Refusals.{Passed, good_check, check_good}

-- ---- an automaton's record

head_below : (n a : ℕ) → n ≤ max_states → a ≤ max_letters → AllBelow 256 (head_of n a)
head_below n a small most zero = omega arith
head_below n a small most (suc zero) = omega arith
head_below n a small most (suc (suc zero)) = omega arith
head_below n a small most (suc (suc (suc zero))) = omega arith
head_below n a small most (suc (suc (suc (suc zero)))) = omega arith
head_below n a small most (suc (suc (suc (suc (suc zero))))) = omega arith
head_below n a small most (suc (suc (suc (suc (suc (suc zero)))))) = omega arith
head_below n a small most (suc (suc (suc (suc (suc (suc (suc i))))))) = omega arith

all_bytes_below : (w : ℕ) (xs : List ℕ) → AllBelow 256 (all_bytes w xs)
unfolding all_bytes
all_bytes_below w [] i = omega arith
all_bytes_below w (x ∷ xs) i = below_append 256 (bytes_of w x) (all_bytes w xs) (bytes_of_below w x) (all_bytes_below w xs) i

module _ (a : ℕ) (A : Automaton) where
  -- I, F and the rows.
  abbrev numbers_of : List ℕ
  numbers_of = drop 1 (fields a A)

  length_numbers : length numbers_of ≡ 2 + a * A.states
  length_numbers = omega (arith, rows_length a A.states (λ l i. mask_of A.states (A.step l i)))

  numbers_below : AllBelow (2 ^ A.states) numbers_of
  numbers_below zero = mask_lt A.states A.initial
  numbers_below (suc zero) = mask_lt A.states A.final
  numbers_below (suc (suc i)) =
      rows_below (2 ^ A.states) a A.states (λ l i. mask_of A.states (A.step l i)) (pow_pos A.states) (λ l i. mask_lt A.states (A.step l i)) i

  pub length_encode : length (encode a A) ≡ length_of A.states a
  unfolding encode
  length_encode = omega (arith, length_all_bytes row_bytes numbers_of, length_numbers)

  pub states_encode : states_of (encode a A) ≡ A.states
  unfolding encode
  states_encode = refl

  pub letters_encode : letters_of (encode a A) ≡ a
  unfolding encode
  letters_encode = refl

  module _ (small : A.states ≤ max_states) where
    numbers_fit : AllBelow (256 ^ row_bytes) numbers_of
    numbers_fit i = lt_of_lt_of_le (numbers_below i) (pow_mono small)

    -- The j-th field of the record.
    number_encode : (j : ℕ) → j < 2 + a * A.states → number row_bytes (encode a A) (initial_at + row_bytes * j) ≡ get_or numbers_of j 0
    unfolding encode
    number_encode j h = number_written (head_of A.states a) 4 numbers_of numbers_fit j (rw length_numbers h)

    pub check_encode : 1 ≤ a → a ≤ max_letters → WellFormed (encode a A)
    unfolding encode
    check_encode some most = check_good (encode a A) (record {
      front = record {
        long = omega (arith, length_encode);
        mark₀ = refl;
        mark₁ = refl;
        mark₂ = refl;
        version = rw number_2;
        states = small;
        some = some;
        letters = most;
      };
      whole = length_encode;
      below = λ j h. rw (number_encode j h) (numbers_below j);
    })

    -- What is written is bytes.
    pub bytes_encode : a ≤ max_letters → AllBelow 256 (encode a A)
    unfolding encode
    bytes_encode most = below_append 256 (head_of A.states a) (all_bytes row_bytes numbers_of) (head_below A.states a small most) (all_bytes_below row_bytes numbers_of)

    -- The automaton read is the one written.
    pub bits_encode : SameBits a (automaton_of (encode a A)) A
    unfolding encode
    bits_encode = record {
      states = refl;
      initial = λ k h. rw (number_encode 0 (omega arith)) (mask_bit A.states A.initial k h);
      final = λ k h. rw (number_encode 1 (omega arith)) (mask_bit A.states A.final k h);
      step = λ l i j hl hi hj.
          let p : rows_at + row_bytes * (l * A.states + i) ≡ initial_at + row_bytes * suc (suc (l * A.states + i)) = omega arith in
          let e = number_encode (suc (suc (l * A.states + i))) (omega (arith, row_lt a A.states l i hl hi)) in
          rw (p, e, rows_at_lem a A.states (λ l i. mask_of A.states (A.step l i)) l i hl hi) (mask_bit A.states (A.step l i) j hj);
    }

-- ---- the same fields, the same record

pub fields_encode : (a : ℕ) (A B : Automaton) → fields a A ≡ fields a B → encode a A ≡ encode a B
unfolding encode
fields_encode a A B e = ap (λ fs. head_of (get_or fs 0 0) a ++ all_bytes row_bytes (drop 1 fs)) e

-- ---- a record's automaton

-- The fields of an automaton that masks give are those masks.
pub fields_masks : (a n i f : ℕ) (r : ℕ → ℕ → ℕ) → i < 2 ^ n → f < 2 ^ n → ((l k : ℕ) → l < a → k < n → r l k < 2 ^ n)
    → fields a (record { states = n; initial = bit_of i; final = bit_of f; step = λ l k. bit_of (r l k) }) ≡ n ∷ i ∷ f ∷ rows_of a n r
fields_masks a n i f r hi hf hr =
    rw (
      mask_of_bits n i hi,
      mask_of_bits n f hf,
      rows_same a n (λ l k. mask_of n (bit_of (r l k))) r (λ l k hl hk. mask_of_bits n (r l k) (hr l k hl hk)),
    )

-- A row of a well-formed record has no bit at n or above.
pub row_below : (bs : List ℕ) → Passed bs → (l i : ℕ) → l < letters_of bs → i < states_of bs → row_at bs l i < 2 ^ states_of bs
row_below bs p l i hl hi =
    let e : rows_at + row_bytes * (l * states_of bs + i) ≡ initial_at + row_bytes * (2 + (l * states_of bs + i)) = omega arith in
    rw e (p.below (2 + (l * states_of bs + i)) (omega (arith, row_lt (letters_of bs) (states_of bs) l i hl hi)))

take_join : (bs : List ℕ) (k : ℕ) → k ≤ length bs → take k bs ≡ join_below k (λ i. get_or bs i 0 ∷ [])
take_join bs zero h = refl
take_join bs (suc k) h = rw (take-suc bs k 0 h, take_join bs k (omega arith))

-- A record's head and fields, put together again.
whole_again : (bs : List ℕ) (k : ℕ) → length bs ≡ 15 + 4 * k
    → take 7 bs ++ (take 4 (drop 7 bs) ++ (take 4 (drop 11 bs) ++ take (4 * k) (drop 15 bs))) ≡ bs
whole_again bs k e =
    let t : take (7 + (4 + (4 + 4 * k))) bs ≡ bs = take_all (7 + (4 + (4 + 4 * k))) bs (omega arith) in
    rw (
      take-add 7 (4 + (4 + 4 * k)) bs,
      take-add 4 (4 + 4 * k) (drop 7 bs),
      drop-drop 4 7 bs,
      take-add 4 (4 * k) (drop 11 bs),
      drop-drop 4 11 bs,
    ) at t

module _ (bs : List ℕ) (good : WellFormed bs) where
  abbrev passed : Passed bs
  passed = good_check bs good

  -- Its fields are the numbers that stand in it.
  fields_automaton : fields (letters_of bs) (automaton_of bs)
      ≡ states_of bs ∷ number row_bytes bs initial_at ∷ number row_bytes bs final_at ∷ numbers row_bytes bs rows_at (letters_of bs * states_of bs)
  fields_automaton =
      let n : ℕ = states_of bs in
      let a : ℕ = letters_of bs in
      fields_masks a n (number row_bytes bs initial_at) (number row_bytes bs final_at) (row_at bs) (passed.below 0 (omega arith)) (passed.below 1 (omega arith)) (row_below bs passed)
      ∙ rw (rows_flat a n (λ k. number row_bytes bs (rows_at + row_bytes * k)))

  module _ (byte : AllBelow 256 bs) where
    head_again : take 7 bs ≡ head_of (states_of bs) (letters_of bs)
    head_again =
        let f = passed.front in
        let v : get_or bs 3 0 + 256 * get_or bs 4 0 ≡ 1 = rw number_2 at f.version in
        let three : get_or bs 3 0 ≡ 1 = omega (arith, byte 3, byte 4) in
        let four : get_or bs 4 0 ≡ 0 = omega arith in
        take_join bs 7 f.long ∙ rw (f.mark₀, f.mark₁, f.mark₂, three, four)

    -- Writing what was read gives the same bytes.
    pub encode_automaton : encode (letters_of bs) (automaton_of bs) ≡ bs
    unfolding encode all_bytes
    encode_automaton =
        let k : ℕ = letters_of bs * states_of bs in
        let l : length bs ≡ 15 + 4 * k = passed.whole in
        ap (λ fs. head_of (states_of bs) (letters_of bs) ++ all_bytes row_bytes (drop 1 fs)) fields_automaton
        ∙ rw (
          all_bytes_numbers bs byte 4 15 k (omega arith),
          bytes_of_number bs byte 4 7 (omega arith),
          bytes_of_number bs byte 4 11 (omega arith),
        )
        (ap (λ h. h ++ (take 4 (drop 7 bs) ++ (take 4 (drop 11 bs) ++ take (4 * k) (drop 15 bs)))) (sym head_again)
        ∙ whole_again bs k l)
