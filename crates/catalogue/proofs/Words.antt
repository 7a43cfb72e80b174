-- Each entry accepts its words: its rows name, for each letter and basis word, the quotients whose xor is the quotient by that word and letter.
use mathlib.Core.Path.{◌≡◌, refl, sym, ap, ◌∙◌}
use mathlib.Core.Bool.{Bool, false, ◌&&◌}
use mathlib.Core.List.{List, [], ◌∷◌, ◌++◌, append-nil}
use Prim.Native.Nat.{ℕ, suc, ◌%◌, ◌≤◌, ◌<◌}
use native.Mathlib.Nat.{suc-mod, mod-mod, mod-lt}
use native.Mathlib.Omega.{arith}
use lib.ListN.{length, get_or}
use Rattle.automata.specs.Xor.{◌⊕◌, xor_below, comb}
use Rattle.automata.specs.Automaton.{Automaton, accepts}
use Rattle.automata.specs.Word.{Over}
use Rattle.automata.specs.Language.{Language, Same}
use Rattle.automata.specs.Dimension.{quotients}
use Rattle.automata.specs.Row.{accepts_from}
use Rattle.automata.proofs.Xor.{xor_false, xor_and, xor_cong}
use Rattle.automata.proofs.Acceptance.{from_nil, from_cons, accepts_row}
use Rattle.catalogue.specs.Words.{ends_in_one, first_run, later_runs, allowed, all_allowed, language_x, listed, length_by_seven, entry_words}
use Rattle.catalogue.specs.Entries.{last, letters_at, entry_of, basis_at}
use Rattle.catalogue.proofs.Table.{values_below, each, All, all_at, six}

-- ---- from quotients to words

-- K is the xor of the quotients of L by the words of bs that the row r takes.
abbrev Taken : Language → Language → List (List ℕ) → (ℕ → Bool) → Type 0
Taken L K bs r = (v : List ℕ) → K v ≡ comb (length bs) r (quotients L (λ i. get_or bs i [])) v

module _ (a : ℕ) (L : Language) (A : Automaton) (bs : List (List ℕ)) (size : A.states ≡ length bs)
    (ends : (k : ℕ) → k < length bs → A.final k ≡ L (get_or bs k []))
    (rows : (l k : ℕ) → l < a → k < length bs → Taken L (λ v. L (get_or bs k [] ++ (l ∷ v))) bs (A.step l k)) where
  -- State k accepts the quotient by the k-th word.
  state_words : (w : List ℕ) → Over a w → (k : ℕ) → k < length bs → accepts_from A w k ≡ L (get_or bs k [] ++ w)
  state_words [] ow k h = from_nil A k ∙ ends k h ∙ ap L (sym (append-nil (get_or bs k [])))
  state_words (l ∷ w) ow k h =
      from_cons A l w k
      ∙ ap (λ m. xor_below m (λ j. A.step l k j && accepts_from A w j)) size
      ∙ xor_cong (length bs) (λ j p. ap (λ b. A.step l k j && b) (state_words w ow.1 j p))
      ∙ sym (rows l k ow.0 h w)

  words : Taken L L bs A.initial → Same a L (accepts A)
  words starts w ow =
      starts w
      ∙ sym
      (accepts_row A w
      ∙ ap (λ m. xor_below m (λ k. A.initial k && accepts_from A w k)) size
      ∙ xor_cong (length bs) (λ k p. ap (λ b. A.initial k && b) (state_words w ow k p)))

-- ---- quotients of three languages

-- A letter 0 in front changes nothing.
ending_zero : (v : List ℕ) → ends_in_one (0 ∷ v) ≡ ends_in_one v ⊕ false
ending_zero [] = refl
ending_zero (l ∷ v) = sym (xor_false (ends_in_one (l ∷ v)))

-- By the rest of k on division by 3.
allowed_next : (k : ℕ) → allowed (suc (suc k)) ≡ allowed k ⊕ allowed (suc k)
allowed_next k =
    let test = each 3 (λ r. allowed (suc (suc r % 3))) (λ r. allowed r ⊕ allowed (suc r)) refl (k % 3) (mod-lt k {m = 3} (omega arith)) in
    rw (suc-mod (suc k) 3, suc-mod k 3) (rw mod-mod at test)

-- The first run is two longer.
zeros_X : (v : List ℕ) → language_x (0 ∷ 0 ∷ v) ≡ language_x v ⊕ language_x (0 ∷ v)
zeros_X v =
    ap (λ b. b && all_allowed (later_runs v)) (allowed_next (first_run v))
    ∙ xor_and (allowed (first_run v)) (allowed (suc (first_run v))) (all_allowed (later_runs v))

-- By the rest of k on division by 7.
listed_next : (k : ℕ) → listed (suc (suc (suc k)) % 7) ≡ listed (k % 7) ⊕ listed (suc (suc k) % 7)
listed_next k =
    rw (suc-mod (suc (suc k)) 7, suc-mod (suc k) 7, suc-mod k 7)
    (each 7 (λ r. listed (suc (suc (suc r % 7) % 7) % 7)) (λ r. listed r ⊕ listed (suc (suc r % 7) % 7)) refl (k % 7) (mod-lt k {m = 7} (omega arith)))

seven_zeros : (v : List ℕ) → length_by_seven (0 ∷ 0 ∷ 0 ∷ v) ≡ (length_by_seven v ⊕ false) ⊕ length_by_seven (0 ∷ 0 ∷ v)
seven_zeros v = listed_next (length v) ∙ ap (λ b. b ⊕ length_by_seven (0 ∷ 0 ∷ v)) (sym (xor_false (length_by_seven v)))

-- ---- the six entries

abbrev RowRight : ℕ → ℕ → ℕ → Type 0
RowRight j l k = Taken (entry_words j) (λ v. entry_words j (get_or (basis_at j) k [] ++ (l ∷ v))) (basis_at j) ((entry_of j).step l k)

abbrev RowsRight : ℕ → Type 0
RowsRight j = All 0 (letters_at j) (λ l. All 0 (length (basis_at j)) (RowRight j l))

abbrev StartRight : ℕ → Type 0
StartRight j = Taken (entry_words j) (entry_words j) (basis_at j) (entry_of j).initial

-- For each letter and state.
rows_right : (j : ℕ) → j < 6 → RowsRight j
unfolding letters_at entry_of basis_at entry_words
rows_right =
    six RowsRight
    (tt, (tt, tt))
    ((λ v. refl, tt), ((λ v. refl, tt), tt))
    ((λ v. refl, tt), ((λ v. refl, tt), tt))
    ((ending_zero, (ending_zero, tt)), ((λ v. refl, (λ v. refl, tt)), tt))
    ((λ v. refl, (zeros_X, tt)), ((λ v. sym (xor_false (language_x v)), (λ v. sym (xor_false (language_x v)), tt)), tt))
    ((λ v. sym (xor_false (length_by_seven (0 ∷ v))), (λ v. refl, (seven_zeros, tt))), tt)

starts_right : (j : ℕ) → j < 6 → StartRight j
unfolding entry_of basis_at entry_words
starts_right =
    six StartRight
    (λ v. refl)
    (λ v. refl)
    (λ v. refl)
    (λ v. sym (xor_false (ends_in_one v)))
    (λ v. sym (xor_false (language_x v)))
    (λ v. sym (xor_false (length_by_seven v ⊕ false) ∙ xor_false (length_by_seven v)))

module _ (j : ℕ) (h : j ≤ last) where
  -- One state for each basis word.
  entry_size : (entry_of j).states ≡ length (basis_at j)
  unfolding entry_of basis_at
  entry_size = each 6 (λ j. (entry_of j).states) (λ j. length (basis_at j)) refl j (omega arith)

  -- The final states are those whose basis word is in the language.
  entry_ends : (k : ℕ) → k < length (basis_at j) → (entry_of j).final k ≡ entry_words j (get_or (basis_at j) k [])
  unfolding entry_of basis_at entry_words
  entry_ends =
      each (length (basis_at j)) (entry_of j).final (λ k. entry_words j (get_or (basis_at j) k []))
      (each 6 (λ j. values_below (length (basis_at j)) (entry_of j).final) (λ j. values_below (length (basis_at j)) (λ k. entry_words j (get_or (basis_at j) k []))) refl j (omega arith))

  entry_rows : (l k : ℕ) → l < letters_at j → k < length (basis_at j) → RowRight j l k
  entry_rows l k hl hk =
      all_at (RowRight j l) (length (basis_at j))
      (all_at (λ l. All 0 (length (basis_at j)) (RowRight j l)) (letters_at j) (rows_right j (omega arith)) l hl) k hk

  pub entry_words_lem : Same (letters_at j) (entry_words j) (accepts (entry_of j))
  entry_words_lem = words (letters_at j) (entry_words j) (entry_of j) (basis_at j) entry_size entry_ends entry_rows (starts_right j (omega arith))
