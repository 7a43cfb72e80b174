-- The search over the mirror, every row tried or as many found as there are states, finds the columns that words reach.
use mathlib.Core.Path.{◌≡◌, refl, sym, ap, ap₂, ◌∙◌}
use mathlib.Core.Bool.{Bool, false, ◌&&◌, and_comm, and-false}
use mathlib.Core.Logic.{◌⊎◌, inl, inr}
use mathlib.Core.List.{List, [], ◌∷◌}
use Prim.Native.Nat.{ℕ, ◌<◌, ◌≤◌}
use native.Mathlib.Decide.{dec_lt}
use Rattle.automata.specs.Xor.{xor_below, comb}
use Rattle.automata.specs.Automaton.{Automaton}
use Rattle.automata.specs.Mask.{bit_of}
use Rattle.automata.specs.Minimal.{SameBits}
use Rattle.automata.specs.Operations.{mirror_of}
use Rattle.automata.specs.Row.{accepts_from, times}
use Rattle.automata.specs.Word.{Over}
use Rattle.automata.proofs.Xor.{xor_cong, xor_none, xor_matrix}
use Rattle.automata.proofs.Acceptance.{from_nil, from_cons}
use Rattle.rows.specs.Row.{width}
use Rattle.rows.specs.Table.{at}
use Rattle.rows.specs.Product.{product}
use Rattle.rows.specs.Machine.{auto}
use Rattle.rows.proofs.ProductLaws.{bit_product}
use Rattle.basis.specs.Basis.{cell, bits}
use Rattle.elimination.specs.Place.{BasisIn}
use Rattle.elimination.proofs.EchelonLaws.{onto_same, onto_fixed}
use Rattle.observation.specs.Explore.{along, Spanned, Tried, Explored}
use Rattle.observation.specs.Observed.{Observed}
use Rattle.observation.proofs.ExploreLaws.{full_spanned}

-- The automaton of the table u has the bits of A's mirror.
module _ (a : ℕ) (A : Automaton) (u : List ℕ) (i f : ℕ) (mirror : SameBits a (auto u A.states i f) (mirror_of A)) where
  abbrev n : ℕ
  n = A.states

  abbrev M : Automaton
  M = auto u n i f

  -- The row that it reaches along a word, read from its end, is the column of that word.
  along_column : (w : List ℕ) → Over a w → (j : ℕ) → j < n → along M w j ≡ accepts_from A w j
  along_column [] ow j h = mirror.initial j h ∙ sym (from_nil A j)
  along_column (l ∷ w) ow j h = xor_cong n (λ k g. ap₂ ◌&&◌ (along_column w ow.1 k g) (mirror.step l k j ow.0 g h) ∙ and_comm (accepts_from A w k) (A.step l j k)) ∙ sym (from_cons A l w j)

  module _ (b : List ℕ) (d p v : ℕ) (X : Explored a u n i f b d p v) where
    abbrev R : ℕ → ℕ → Bool
    R = bits width b 1

    tried : (k : ℕ) → k < d → Tried a u n b d k
    tried k h = go X.enough
      where
        go : ((k : ℕ) → k < d → Tried a u n b d k) ⊎ (d ≡ n) → Tried a u n b d k
        go (inl T) = T k h
        go (inr e) = λ l g. full_spanned a u n i f b d p v X.found e (bit_of (product n (cell width b 1 k) (at u l)))

    -- An xor of rows found, times a letter, is one again.
    module _ (l : ℕ) (hl : l < a) (y : ℕ → Bool) (S : Spanned n b d y) where
      coefs : (k : ℕ) → Dec (k < d) → ℕ → Bool
      coefs k (yes h) = (tried k h l hl).coef
      coefs k (no h) = λ m. false

      row_sum : (k : ℕ) → k < d → (D : Dec (k < d)) → (j : ℕ) → j < n → bit_of (product n (cell width b 1 k) (at u l)) j ≡ comb d (coefs k D) R j
      unfolding coefs
      row_sum k h (yes g) j hj = (tried k g l hl).sum j hj
      row_sum k h (no g) j hj = absurd (g h)

      row_short : (k : ℕ) (D : Dec (k < d)) (r : ℕ) → d ≤ r → coefs k D r ≡ false
      unfolding coefs
      row_short k (yes g) r h = (tried k g l hl).short r h
      row_short k (no g) r h = refl

      spanned_times : Spanned n b d (times M l y)
      spanned_times = record {
        coef = λ m. xor_below d (λ k. S.coef k && coefs k (dec_lt k d) m);
        short = λ r h. xor_none d (λ k g. ap (λ x. S.coef k && x) (row_short k (dec_lt k d) r h) ∙ and-false (S.coef k));
        sum = λ j h.
            xor_cong n (λ s g. ap (λ x. x && bit_of (at u l s) j) (S.sum s g))
            ∙ sym (xor_matrix d n S.coef R (λ s. bit_of (at u l s) j))
            ∙ xor_cong d (λ k g. ap (λ x. S.coef k && x) (sym (bit_product n (cell width b 1 k) (at u l) j) ∙ row_sum k g (dec_lt k d) j h))
            ∙ xor_matrix d d S.coef (λ k. coefs k (dec_lt k d)) (λ m. R m j);
      }

    -- So is the row along every word.
    spanned : (w : List ℕ) → Over a w → Spanned n b d (along M w)
    spanned [] ow = X.found.start
    spanned (l ∷ w) ow = spanned_times l ow.0 (along M w) (spanned w ow.1)

    pub observed : Observed a A (bit_of p) (bits width b 0)
    observed = record {
      unit = F.unit;
      span = λ v ov j h. column v ov j h ∙ sym (onto_fixed n d (bit_of p) R (bits width b 0) C F (spanned v ov).coef j) ∙ onto_same n d (bit_of p) R (bits width b 0) C F (comb d (spanned v ov).coef R) (accepts_from A v) (λ k g. sym (column v ov k g)) j;
      seen = λ r z j h e.
          xor_cong n (λ k g. ap (λ x. r k && x) (F.sum j h e k ∙ xor_cong d (λ m q. and_comm (C j m) (R m k))))
          ∙ xor_matrix n d r (λ k m. R m k) (C j)
          ∙ xor_none d (λ m q. ap (λ x. x && C j m) (xor_cong n (λ k g. ap (λ x. r k && x) (X.found.reached m q k g ∙ along_column (X.found.word m) (X.found.over m q) k g)) ∙ z (X.found.word m) (X.found.over m q)));
    }
      where
        C : ℕ → ℕ → Bool
        C = X.found.coef

        F : BasisIn width n d p C b
        F = X.found.basis

        column : (v : List ℕ) (ov : Over a v) (j : ℕ) → j < n → accepts_from A v j ≡ comb d (spanned v ov).coef R j
        column v ov j h = sym (along_column v ov j h) ∙ (spanned v ov).sum j h
