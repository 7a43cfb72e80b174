-- A row inserted: basis rows taken off it, and what is left added.
--   Remainder p e y x    x is what is left of y: they differ by a row of every span that has the basis rows
use mathlib.Core.Path.{◌≡◌, refl, sym, ap, ap₂, ◌∙◌}
use mathlib.Core.Bool.{Bool, true, false, true≢false, ◌||◌, or-false}
use mathlib.Core.List.{List}
use Prim.Native.Nat.{ℕ, ◌+◌, ◌^◌, ◌≤◌, ◌<◌}
use native.Mathlib.Decide.{ℕ_discrete}
use lib.Bits.{bit_xor, bit_or, xor_self, xor_zero_r}
use lib.ListN.{length, get_or, set, length-set}
use lib.Seq.{get_or-set_same, get_or-set_other}
use Rattle.automata.specs.Mask.{bit_of}
use Rattle.automata.proofs.Xor.{xor_assoc, eqb_same, eqb_differ}
use Rattle.rows.proofs.BitLaws.{bit_xor_lem, bit_or_lem, bit_pow, bit_ext}
use Rattle.triangular.specs.Triangular.{InSpan, Spanned, Triangular, Inserted}
use Rattle.triangular.proofs.SpanLaws.{span_xor, span_none}
use Rattle.triangular.proofs.TopBit.{Top}

abbrev pub Remainder : ℕ → List ℕ → ℕ → ℕ → Type 0
Remainder p e y x = (n d : ℕ) (Y : ℕ → ℕ → Bool) → Spanned n d Y p e → InSpan n d Y (bit_xor y x)

regroup : (a b c : ℕ) → bit_xor (bit_xor a b) c ≡ bit_xor a (bit_xor b c)
regroup a b c = bit_ext _ _ (λ j. simp bit_xor_lem (xor_assoc (bit_of a j) (bit_of b j) (bit_of c j)))

twice : (y x : ℕ) → bit_xor y (bit_xor y x) ≡ x
twice y x = sym (regroup y y x) ∙ ap (λ v. bit_xor v x) (xor_self y)

module _ (p : ℕ) (e : List ℕ) where
  -- No row is taken off yet.
  pub remainder_start : (y : ℕ) → Remainder p e y y
  remainder_start y n d Y s = rw (xor_self y) (span_none n d Y)

  pub remainder_step : (y x q : ℕ) → bit_of p q ≡ true → Remainder p e y x → Remainder p e y (bit_xor x (get_or e q 0))
  remainder_step y x q b h n d Y s = rw (regroup y x (get_or e q 0)) at (span_xor n d Y (bit_xor y x) (get_or e q 0) (h n d Y s) (s q b))

  module _ (x q : ℕ) (l : q < length e) where
    -- What holds of x, and of each row of the old basis, holds of each row of the new one.
    added : (P : ℕ → ℕ → Type 0) → P q x → ((k : ℕ) → bit_of p k ≡ true → P k (get_or e k 0)) → (k : ℕ) → bit_of (bit_or p (2 ^ q)) k ≡ true → P k (get_or (set e q x) k 0)
    added P own old k b = go (ℕ_discrete k q)
      where
        go : Dec (k ≡ q) → P k (get_or (set e q x) k 0)
        go (yes r) = rw (r, get_or-set_same e q x 0 l) own
        go (no r) = rw (get_or-set_other e q k x 0 r) (old k (sym (bit_or_lem k p (2 ^ q) ∙ ap (λ c. bit_of p k || c) (bit_pow q k ∙ eqb_differ r) ∙ or-false (bit_of p k)) ∙ b))

    pub triangular_added : Triangular p e → Top q x → Triangular (bit_or p (2 ^ q)) (set e q x)
    triangular_added t own = rw (length-set e q x) (added (λ k v. (k < length e) × (2 ^ k ≤ v) × (v < 2 ^ (k + 1))) (l, own.0, own.1) t)

    -- What is left of y is added: its highest bit is a new pivot.
    pub inserted_new : (y : ℕ) → Triangular p e → Top q x → bit_of p q ≡ false → Remainder p e y x → Inserted p e y (bit_or p (2 ^ q)) (set e q x)
    inserted_new y t own new h = record {
      shape = triangular_added t own;
      size = length-set e q x;
      span = λ n d Y s i. added (λ k v. InSpan n d Y v) (rw (twice y x) at (span_xor n d Y y (bit_xor y x) i (h n d Y s))) s;
      old = λ r. absurd (true≢false (sym (bit_or_lem q p (2 ^ q) ∙ ap₂ ◌||◌ new (bit_pow q q ∙ eqb_same q)) ∙ ap (λ v. bit_of v q) r ∙ new));
    }

  -- Nothing is left of y.
  pub inserted_old : (y x : ℕ) → x ≡ 0 → Triangular p e → Remainder p e y x → Inserted p e y p e
  inserted_old y x z t h = record { shape = t; size = refl; span = λ n d Y s i. s; old = λ r n d Y s. rw (z, xor_zero_r y) at (h n d Y s) }
