-- The fields of automata: the same fields mean the same bits, and for minimal automata the same words.
use mathlib.Core.Path.{◌≡◌, refl, sym, ap, ap₂, subst, ◌∙◌}
use mathlib.Core.Bool.{Bool}
use mathlib.Core.List.{List, [], ◌∷◌, ◌++◌}
use Prim.Native.Nat.{ℕ, zero, suc, ◌+◌, ◌*◌, ◌<◌, ◌≤◌}
use native.Mathlib.Nat.{not-suc-le-zero, lt_of_lt_of_le, mul-le-mul_right, suc-mul, mul-one, add-zero}
use native.Mathlib.Omega.{arith}
use lib.ListN.{length, get_or, drop, length-append, get_or-append}
use lib.Seq.{get_or-append-add}
use Rattle.automata.specs.Automaton.{Automaton, accepts}
use Rattle.automata.specs.Language.{Same}
use Rattle.automata.specs.Mask.{bit_of, mask_of}
use Rattle.automata.specs.Minimal.{SameBits}
use Rattle.automata.specs.MinimalOf.{minimal_of}
use Rattle.automata.specs.WordList.{join_below}
use Rattle.automata.specs.Fields.{rows_of, fields}
use Rattle.automata.proofs.Below.{up_to}
use Rattle.automata.proofs.Mask.{mask_same, mask_bit}
use Rattle.automata.proofs.Dimension.{same_minimal, same_language}

-- ---- lists end to end

join_same : {X : Type 0} (k : ℕ) (f g : ℕ → List X) → ((i : ℕ) → i < k → f i ≡ g i) → join_below k f ≡ join_below k g
join_same zero f g h = refl
join_same (suc k) f g h = ap₂ ◌++◌ (join_same k f g (λ i p. h i (omega arith))) (h k (omega arith))

-- Lists of one length n: how long they are together, and what stands at place i of list l.
pub join_length : {X : Type 0} (k n : ℕ) (f : ℕ → List X) → ((l : ℕ) → l < k → length (f l) ≡ n) → length (join_below k f) ≡ k * n
join_length zero n f h = omega arith
join_length (suc k) n f h = length-append (join_below k f) (f k) ∙ omega (arith, join_length k n f (λ l p. h l (omega arith)), h k (omega arith))

pub join_at : {X : Type 0} (k n : ℕ) (f : ℕ → List X) → ((l : ℕ) → l < k → length (f l) ≡ n) → (x : X) (l i : ℕ) → l < k → i < n → get_or (join_below k f) (l * n + i) x ≡ get_or (f l) i x
join_at zero n f h x l i hl hi = absurd (not-suc-le-zero hl)
join_at (suc k) n f h x l i hl hi = up_to {Q = λ l. get_or (join_below k f ++ f k) (l * n + i) x ≡ get_or (f l) i x} k (λ l p. old l p (join_at k n f (λ l p. h l (omega arith)) x l i p hi)) new l hl
  where
    size : length (join_below k f) ≡ k * n
    size = join_length k n f (λ l p. h l (omega arith))

    inside : (l : ℕ) → l < k → l * n + i < length (join_below k f)
    inside l p = subst (λ m. l * n + i < m) (sym size) (lt_of_lt_of_le {m = l * n + n} (omega arith) (subst (λ m. m ≤ k * n) (suc-mul l n) (mul-le-mul_right n p)))

    old : (l : ℕ) → l < k → get_or (join_below k f) (l * n + i) x ≡ get_or (f l) i x → get_or (join_below k f ++ f k) (l * n + i) x ≡ get_or (f l) i x
    old l p e = get_or-append (join_below k f) (f k) x (l * n + i) (inside l p) ∙ e

    new : get_or (join_below k f ++ f k) (k * n + i) x ≡ get_or (f k) i x
    new = ap (λ m. get_or (join_below k f ++ f k) (m + i) x) (sym size) ∙ get_or-append-add (join_below k f) (f k) i x

-- The row of letter l and state i stands at l * n + i.
pub rows_at_lem : (a n : ℕ) (f : ℕ → ℕ → ℕ) (l i : ℕ) → l < a → i < n → get_or (rows_of a n f) (l * n + i) 0 ≡ f l i
rows_at_lem a n f l i hl hi =
    join_at a n (λ l. join_below n (λ i. f l i ∷ [])) (λ l p. join_length n 1 (λ i. f l i ∷ []) (λ i q. refl) ∙ mul-one n) 0 l i hl hi
    ∙ ap (λ k. get_or (join_below n (λ i. f l i ∷ [])) k 0) (sym (add-zero i) ∙ ap (λ k. k + 0) (sym (mul-one i)))
    ∙ join_at n 1 (λ i. f l i ∷ []) (λ i q. refl) 0 i 0 hi (omega arith)

pub rows_length : (a n : ℕ) (f : ℕ → ℕ → ℕ) → length (rows_of a n f) ≡ a * n
rows_length a n f = join_length a n (λ l. join_below n (λ i. f l i ∷ [])) (λ l p. join_length n 1 (λ i. f l i ∷ []) (λ i q. refl) ∙ mul-one n)

pub rows_same : (a n : ℕ) (f g : ℕ → ℕ → ℕ) → ((l i : ℕ) → l < a → i < n → f l i ≡ g l i) → rows_of a n f ≡ rows_of a n g
rows_same a n f g h =
    join_same a (λ l. join_below n (λ i. f l i ∷ [])) (λ l. join_below n (λ i. g l i ∷ []))
    (λ l hl. join_same n (λ i. f l i ∷ []) (λ i. g l i ∷ []) (λ i hi. ap (λ m. m ∷ []) (h l i hl hi)))

-- ---- fields and bits

-- The fields of n states with the bits of B.
abbrev fields_at : ℕ → ℕ → Automaton → List ℕ
fields_at a n B = n ∷ mask_of n B.initial ∷ mask_of n B.final ∷ rows_of a n (λ l i. mask_of n (B.step l i))

-- The same bits give the same fields.
pub bits_fields : (a : ℕ) (A B : Automaton) → SameBits a A B → fields a A ≡ fields a B
bits_fields a A B s =
    ap₂ (λ i r. A.states ∷ i ∷ r) (mask_same A.states A.initial B.initial s.initial)
    (ap₂ ◌∷◌ (mask_same A.states A.final B.final s.final)
    (rows_same a A.states (λ l i. mask_of A.states (A.step l i)) (λ l i. mask_of A.states (B.step l i))
    (λ l i hl hi. mask_same A.states (A.step l i) (B.step l i) (λ j hj. s.step l i j hl hi hj))))
    ∙ ap (λ n. fields_at a n B) s.states

-- The same number of n bits means the same bits.
mask_bits : (n : ℕ) (f g : ℕ → Bool) → mask_of n f ≡ mask_of n g → (j : ℕ) → j < n → f j ≡ g j
mask_bits n f g e j h = sym (mask_bit n f j h) ∙ ap (λ m. bit_of m j) e ∙ mask_bit n g j h

-- The same fields mean the same bits.
pub fields_bits : (a : ℕ) (A B : Automaton) → fields a A ≡ fields a B → SameBits a A B
fields_bits a A B e = record {
  states = count;
  initial = mask_bits A.states A.initial B.initial (ap (λ fs. get_or fs 1 0) whole);
  final = mask_bits A.states A.final B.final (ap (λ fs. get_or fs 2 0) whole);
  step = λ l i j hl hi. mask_bits A.states (A.step l i) (B.step l i)
      (sym (rows_at_lem a A.states (λ l i. mask_of A.states (A.step l i)) l i hl hi)
      ∙ ap (λ fs. get_or (drop 3 fs) (l * A.states + i) 0) whole
      ∙ rows_at_lem a A.states (λ l i. mask_of A.states (B.step l i)) l i hl hi) j;
}
  where
    count : A.states ≡ B.states
    count = ap (λ fs. get_or fs 0 0) e

    whole : fields a A ≡ fields_at a A.states B
    whole = e ∙ ap (λ n. fields_at a n B) (sym count)

-- ---- languages

-- Two automata have the same language exactly when their minimal automata have the same fields.
pub same_fields : (a : ℕ) (A B : Automaton) → Same a (accepts A) (accepts B) → fields a (minimal_of a A) ≡ fields a (minimal_of a B)
same_fields a A B same = bits_fields a (minimal_of a A) (minimal_of a B) (same_language a A B same)

pub fields_same : (a : ℕ) (A B : Automaton) → fields a (minimal_of a A) ≡ fields a (minimal_of a B) → Same a (accepts A) (accepts B)
fields_same a A B e = same_minimal a A B (fields_bits a (minimal_of a A) (minimal_of a B) e)
