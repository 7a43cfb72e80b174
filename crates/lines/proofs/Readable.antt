-- A line can be read back: its fields are told apart by the spaces, so that two lines are the same only where their fields are.
use mathlib.Core.Path.{◌≡◌, refl, sym, ap₂, ◌∙◌}
use mathlib.Core.Bool.{Bool, true, false, cond}
use mathlib.Core.List.{List, [], ◌∷◌, ◌++◌, append_assoc, append_cancel_left, append_cancel_right, map}
use Prim.Native.Nat.{ℕ, zero, suc, ◌/◌, ◌%◌, ◌<◌}
use native.Mathlib.Omega.{arith}
use lib.Dec.{ltb}
use Rattle.text.specs.Text.{ascii, digit, figures, decimal, word_text}
use Rattle.text.proofs.Decimal.{decimal_injective}
use Rattle.verdict.specs.declared.Side.{Side}
use Rattle.verdict.specs.declared.Side.TheVariants.{First, Second}
use Rattle.lines.specs.Lines.{opening, refused_line, dim_line, key_line, same_line, accepted_by, differ_line, too_long_line}

-- ---- no figure is a space

abbrev Dark : List ℕ → Type 0
Dark [] = Unit {0}
Dark (x ∷ xs) = (32 < x) × Dark xs

dark_append : (xs ys : List ℕ) → Dark xs → Dark ys → Dark (xs ++ ys)
dark_append [] ys h k = k
dark_append (x ∷ xs) ys h k = (h.0, dark_append xs ys h.1 k)

dark_figures : (k n : ℕ) → Dark (figures k n)
unfolding figures
dark_figures zero n = tt
dark_figures (suc k) n = go (ltb n 10) (dark_append (figures k (n / 10)) (digit (n % 10) ∷ []) (dark_figures k (n / 10)) (omega arith, tt))
  where
    go : (b : Bool) → Dark (figures k (n / 10) ++ (digit (n % 10) ∷ [])) → Dark (cond b (digit n ∷ []) (figures k (n / 10) ++ (digit (n % 10) ∷ [])))
    go true h = (omega arith, tt)
    go false h = h

dark_decimal : (n : ℕ) → Dark (decimal n)
unfolding decimal
dark_decimal n = dark_figures (suc n) n

dark_word : (w : List ℕ) → Dark (word_text w)
unfolding word_text
dark_word [] = (omega arith, tt)
dark_word (l ∷ w) = digits (l ∷ w)
  where
    digits : (w : List ℕ) → Dark (map digit w)
    digits [] = tt
    digits (l ∷ w) = (omega arith, digits w)

-- ---- the first space ends a field

split : (xs ys u v : List ℕ) → Dark xs → Dark ys → xs ++ (32 ∷ u) ≡ ys ++ (32 ∷ v) → (xs ≡ ys) × (u ≡ v)
split [] [] u v h k e = (refl, cc)
split [] (y ∷ ys) u v h k e = let z : 32 ≡ y = cc in absurd (omega (arith, k.0))
split (x ∷ xs) [] u v h k e = let z : x ≡ 32 = cc in absurd (omega (arith, h.0))
split (x ∷ xs) (y ∷ ys) u v h k e =
    let t = split xs ys u v h.1 k.1 (cc) in
    let z : x ≡ y = cc in
    (ap₂ ◌∷◌ z t.0, t.1)

word_injective : (u v : List ℕ) → word_text u ≡ word_text v → u ≡ v
unfolding word_text
word_injective [] [] e = refl
word_injective [] (l ∷ v) e = let z : 45 ≡ digit l = cc in absurd (omega arith)
word_injective (l ∷ u) [] e = let z : digit l ≡ 45 = cc in absurd (omega arith)
word_injective (l ∷ u) (m ∷ v) e = digits (l ∷ u) (m ∷ v) e
  where
    digits : (u v : List ℕ) → map digit u ≡ map digit v → u ≡ v
    digits [] [] e = refl
    digits [] (l ∷ v) e = absurd (let z : ◌≡◌ {A = ℕ} 0 1 = cc in omega arith)
    digits (l ∷ u) [] e = absurd (let z : ◌≡◌ {A = ℕ} 0 1 = cc in omega arith)
    digits (l ∷ u) (m ∷ v) e =
        let z : digit l ≡ digit m = cc in
        let y : l ≡ m = omega arith in
        ap₂ ◌∷◌ y (digits u v (cc))

-- Who accepted, past the space.
abbrev named : Side → List ℕ
named First = ascii "accepted-by key\n"
named Second = ascii "accepted-by answer\n"

named_by : (s : Side) → accepted_by s ≡ 32 ∷ named s
named_by First = refl
named_by Second = refl

named_injective : (s t : Side) → named s ≡ named t → s ≡ t
named_injective First First e = refl
named_injective First Second e = let z : ◌≡◌ {A = ℕ} 107 97 = cc in absurd (omega arith)
named_injective Second First e = let z : ◌≡◌ {A = ℕ} 97 107 = cc in absurd (omega arith)
named_injective Second Second e = refl

-- ---- the lines

opened : (index : ℕ) (words : List ℕ) (n : ℕ) (rest : List ℕ) → opening index words n ++ rest ≡ decimal index ++ (words ++ (decimal n ++ rest))
unfolding opening
opened index words n rest = simp append_assoc

differ_fields : (index d : ℕ) (w : List ℕ) (side : Side) → differ_line index d w side ≡ decimal index ++ (ascii " differ dim " ++ (decimal d ++ (ascii " word " ++ (word_text w ++ accepted_by side))))
unfolding differ_line
differ_fields index d w side = simp append_assoc (opened index (ascii " differ dim ") d (ascii " word " ++ (word_text w ++ accepted_by side)))

pub dim_injective : (index : ℕ) (words : List ℕ) (m n : ℕ) → dim_line index words m ≡ dim_line index words n → m ≡ n
unfolding dim_line
dim_injective index words m n e =
    let t = sym (opened index words m (ascii "\n")) ∙ e ∙ opened index words n (ascii "\n") in
    decimal_injective m n
    (append_cancel_right (decimal m) (decimal n) (ascii "\n")
    (append_cancel_left words (decimal m ++ ascii "\n") (decimal n ++ ascii "\n")
    (append_cancel_left (decimal index) (words ++ (decimal m ++ ascii "\n")) (words ++ (decimal n ++ ascii "\n")) t)))

pub differ_injective : (index m n : ℕ) (u v : List ℕ) (s t : Side) → differ_line index m u s ≡ differ_line index n v t → (m ≡ n) × (u ≡ v) × (s ≡ t)
differ_injective index m n u v s t e =
    let l = sym (differ_fields index m u s) ∙ e ∙ differ_fields index n v t in
    let k = append_cancel_left (decimal index) _ _ l in
    let d = split (decimal m) (decimal n) (ascii "word " ++ (word_text u ++ accepted_by s)) (ascii "word " ++ (word_text v ++ accepted_by t)) (dark_decimal m) (dark_decimal n) (append_cancel_left (ascii " differ dim ") _ _ k) in
    let f = append_cancel_left (ascii "word ") (word_text u ++ accepted_by s) (word_text v ++ accepted_by t) d.1 in
    let w = split (word_text u) (word_text v) (named s) (named t) (dark_word u) (dark_word v) (rw (named_by s, named_by t) at f) in
    (decimal_injective m n d.0, word_injective u v w.0, named_injective s t w.1)

-- A line says not both `same` and `differ`.
pub not_both : (index m n : ℕ) (w : List ℕ) (side : Side) → same_line index m ≡ differ_line index n w side → ⊥
unfolding dim_line
not_both index m n w side e =
    let l = sym (opened index (ascii " same dim ") m (ascii "\n")) ∙ e ∙ differ_fields index n w side in
    let k = append_cancel_left (decimal index) (ascii " same dim " ++ (decimal m ++ ascii "\n")) (ascii " differ dim " ++ (decimal n ++ (ascii " word " ++ (word_text w ++ accepted_by side)))) l in
    let z : ◌≡◌ {A = ℕ} 115 100 = cc in
    omega arith

-- ---- a line that says `refused`

-- What stands in it past the index and the space.
abbrev refusal : ℕ → ℕ → List ℕ
refusal number place = ascii "refused " ++ (decimal number ++ (ascii " " ++ (decimal place ++ ascii "\n")))

refused_fields : (index number place : ℕ) → refused_line index number place ≡ decimal index ++ (32 ∷ refusal number place)
unfolding refused_line
refused_fields index number place = simp append_assoc (opened index (ascii " refused ") number (ascii " " ++ (decimal place ++ ascii "\n")))

-- Its number is read back.
pub refused_number : (i j m n p q : ℕ) → refused_line i m p ≡ refused_line j n q → m ≡ n
refused_number i j m n p q e =
    let t = split (decimal i) (decimal j) (refusal m p) (refusal n q) (dark_decimal i) (dark_decimal j) (sym (refused_fields i m p) ∙ e ∙ refused_fields j n q) in
    let k = append_cancel_left (ascii "refused ") (decimal m ++ (ascii " " ++ (decimal p ++ ascii "\n"))) (decimal n ++ (ascii " " ++ (decimal q ++ ascii "\n"))) t.1 in
    decimal_injective m n (split (decimal m) (decimal n) (decimal p ++ ascii "\n") (decimal q ++ ascii "\n") (dark_decimal m) (dark_decimal n) k).0

-- A line whose second field begins otherwise does not say it.
other_field : (xs : List ℕ) (c : ℕ) (rest : List ℕ) (i n p : ℕ) → Dark xs → (c ≡ 114 → ⊥) → xs ++ (32 ∷ c ∷ rest) ≡ refused_line i n p → ⊥
other_field xs c rest i n p h other e =
    let t = (split xs (decimal i) (c ∷ rest) (refusal n p) h (dark_decimal i) (e ∙ refused_fields i n p)).1 in
    other cc

module _ (i n p : ℕ) where
  dim_not_refused : (index c : ℕ) (words : List ℕ) (d : ℕ) → (c ≡ 114 → ⊥) → dim_line index (32 ∷ c ∷ words) d ≡ refused_line i n p → ⊥
  unfolding dim_line
  dim_not_refused index c words d other e = other_field (decimal index) c (words ++ (decimal d ++ ascii "\n")) i n p (dark_decimal index) other (sym (opened index (32 ∷ c ∷ words) d (ascii "\n")) ∙ e)

  pub key_not_refused : (d : ℕ) → key_line d ≡ refused_line i n p → ⊥
  key_not_refused d = dim_not_refused 0 107 (ascii "ey dim ") d (λ z. omega arith)

  pub same_not_refused : (index d : ℕ) → same_line index d ≡ refused_line i n p → ⊥
  same_not_refused index d = dim_not_refused index 115 (ascii "ame dim ") d (λ z. omega arith)

  pub differ_not_refused : (index d : ℕ) (w : List ℕ) (side : Side) → differ_line index d w side ≡ refused_line i n p → ⊥
  differ_not_refused index d w side e =
      other_field (decimal index) 100 (ascii "iffer dim " ++ (decimal d ++ (ascii " word " ++ (word_text w ++ accepted_by side)))) i n p (dark_decimal index) (λ z. omega arith) (sym (differ_fields index d w side) ∙ e)

  pub long_not_refused : too_long_line ≡ refused_line i n p → ⊥
  long_not_refused e = other_field (ascii "too") 108 (ascii "ong\n") i n p (omega arith, (omega arith, (omega arith, tt))) (λ z. omega arith) e

  -- Nor does no line.
  pub none_not_refused : [] ≡ refused_line i n p → ⊥
  none_not_refused e = go (decimal i) (refusal n p) (e ∙ refused_fields i n p)
    where
      go : (xs : List ℕ) (rest : List ℕ) → [] ≡ xs ++ (32 ∷ rest) → ⊥
      go [] rest q = absurd (let z : ◌≡◌ {A = ℕ} 0 1 = cc in omega arith)
      go (y ∷ xs) rest q = absurd (let z : ◌≡◌ {A = ℕ} 0 1 = cc in omega arith)
