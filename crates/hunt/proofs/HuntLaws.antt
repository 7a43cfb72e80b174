-- The search for the first accepted row, pair by pair.
use mathlib.Core.Path.{◌≡◌, refl, sym, ap, subst, ◌∙◌}
use mathlib.Core.Bool.{Bool, true, false, ◌&&◌}
use mathlib.Core.List.{List}
use mathlib.Core.Logic.{inl, inr}
use Prim.Native.Nat.{ℕ, suc, ◌+◌, ◌^◌, ◌<◌, ◌≤◌}
use native.Mathlib.Numerals.{add-one}
use native.Mathlib.Omega.{arith}
use lib.ListN.{length}
use Rattle.automata.specs.Xor.{xor_below}
use Rattle.automata.specs.Mask.{bit_of}
use Rattle.automata.proofs.Xor.{xor_none}
use Rattle.automata.proofs.Below.{up_to}
use Rattle.automata.proofs.Dependence.{independent_bound}
use Rattle.rows.specs.Row.{width}
use Rattle.rows.specs.Product.{product}
use Rattle.rows.specs.Machine.{auto_by}
use Rattle.basis.specs.Basis.{cell, bits, Room}
use Rattle.rows.proofs.BitLaws.{bit_none, bit_high}
use Rattle.rows.proofs.ProductLaws.{bit_product}
use Rattle.trail.specs.declared.Step.{Step}
use Rattle.trail.specs.Trail.{trail_size, from_in, by_in, linked}
use Rattle.trail.proofs.LinkLaws.{linked_length, linked_from, linked_by, linked_from_new, linked_by_new}
use Rattle.elimination.specs.Echelon.{onto, rest}
use Rattle.elimination.specs.Place.{BasisIn, LeftOf, Old, New, Placed}
use Rattle.elimination.proofs.EchelonLaws.{room}
use Rattle.elimination.proofs.PlaceLaws.{place_old, some_left}
use Rattle.reduction.specs.Tables.{accepted}
use Rattle.reduction.proofs.SearchLaws.{search_next}
use Rattle.reduction.proofs.Complete.{with_row, with_kept, with_new, rows_with, pivots_with, base_with, coef_with, alone, old_row, new_row, grown}
use Rattle.reduction.proofs.TableSearch.{empty_cover, placed_length, placed_cover, search_start, search_old_row, search_new_row}
use Rattle.hunt.specs.Hunt.{shared, Hunting, Stopped}

-- ---- the initial row

module _ (σ a : ℕ) (M : ℕ → ℕ → ℕ) (n i f : ℕ) (C C' : ℕ → ℕ → Bool) (c : ℕ → Bool) (b b' : List ℕ) (w : List Step) (d p v : ℕ) (P : Placed σ n 0 0 0 i C C' c b b' d p v) where
  -- No product is done yet.
  nothing : ℕ → ℕ → ℕ → Bool
  nothing x j r = false

  first_row_lem : Placed σ n 0 0 0 i C C' c b b' d p v → (r : ℕ) → r < d → (r ≡ 0) × (cell σ b' 1 r ≡ i)
  first_row_lem (inl O) r h = absurd (omega (arith, O.count))
  first_row_lem (inr N) r h =
      let z : r ≡ 0 = omega (arith, N.count) in
      (z, ap (cell σ b' 1) z ∙ N.row_new)

  pub hunting_start : Room σ b → n ≤ σ → length w ≡ trail_size → shared n i f ≡ false → Hunting σ a M n i f b' w d 0 0 p v
  hunting_start h hn g e = record {
    coef = C';
    made = nothing;
    search = search_start σ a M n i f C C' c b b' (from_in w) (by_in w) nothing d p v P;
    cover = placed_cover σ n 0 0 0 i C C' c b b' d p v (empty_cover σ 0 b) P;
    base = omega (arith, placed_length σ n 0 0 0 i C C' c b b' d p v P);
    fits = hn;
    trail = g;
    none = λ r g. ap (λ x. shared n x f) (first_row_lem P r g).1 ∙ e;
  }

-- ---- a product that is an xor of rows found

-- Whatever coefficients make the basis.
abbrev pub Known : ℕ → ℕ → ℕ → ℕ → ℕ → List ℕ → ℕ → Type 0
Known σ n d p v b y = (C : ℕ → ℕ → Bool) → BasisIn σ n d p C b → (c : ℕ → Bool) × Old σ d p v y C C c b b d p v

-- A product of no bits is an xor of no rows.
pub none_known : (σ n d p v : ℕ) (b : List ℕ) (y : ℕ) → y ≡ 0 → Known σ n d p v b y
none_known σ n d p v b y e C F = (
  λ i. false,
  record {
    count = refl;
    pivots = refl;
    used = refl;
    table = refl;
    coef = refl;
    sum = λ k. ap (λ x. bit_of x k) e ∙ bit_none k ∙ sym (xor_none d (λ i h. refl));
    short = λ i h. refl;
  },
)

-- Nothing is left of it.
pub left_known : (σ n d p v : ℕ) (b : List ℕ) (y : ℕ) → y < 2 ^ n → (x : ℕ) → LeftOf σ p y b x → x ≡ 0 → Known σ n d p v b y
left_known σ n d p v b y low x hx e C F = let c = onto n (bit_of p) C (bit_of y) in (c, place_old σ n d p v y b C F low x hx c (λ i. refl) e)

-- ---- one pair

module _ (σ a : ℕ) (M : ℕ → ℕ → ℕ) (n i f : ℕ) (b : List ℕ) (w : List Step) (d k l p v : ℕ) (H : Hunting σ a M n i f b w d k l p v) (hk : k < d) (hl : l < a) (y : ℕ) (hy : y ≡ product n (cell σ b 1 k) (M l)) where
  abbrev C : ℕ → ℕ → Bool
  C = H.coef

  -- No row is found.
  pub hunting_old : Known σ n d p v b y → Hunting σ a M n i f b w d k (l + 1) p v
  hunting_old K = record {
    coef = C;
    made = made';
    search = search_old_row σ a M n i f b C (from_in w) (by_in w) H.made d k l p H.search hk hl v d p v C c b made' (λ x j h g. with_kept H.made k l c x j) (with_new H.made k l c) (subst (λ z. Old σ d p v z C C c b b d p v) hy old.1);
    cover = H.cover;
    base = H.base;
    fits = H.fits;
    trail = H.trail;
    none = H.none;
  }
    where
      old : (c : ℕ → Bool) × Old σ d p v y C C c b b d p v
      old = K C H.search.basis

      c : ℕ → Bool
      c = old.0

      made' : ℕ → ℕ → ℕ → Bool
      made' = with_row H.made k l c

  -- A row is found, as x is left of it, and the trail has where it came from.
  module _ (hn : n ≤ width) (low : y < 2 ^ n) (x : ℕ) (hx : LeftOf σ p y b x) (some : 0 < x) where
    abbrev w' : List Step
    w' = linked w d k l

    bit : (q : ℕ) × (q < n) × (rest n (bit_of p) (bits σ b 0) (bit_of y) q ≡ true)
    bit = some_left σ n d p v y b C H.search.basis low x hx some

    pub new_below : d < width
    new_below = omega (arith, room n d (bit_of p) (bits σ b 1) (bits σ b 0) C H.search.basis (bit_of y) bit.0 bit.1 bit.2)

    -- It is accepted.
    pub stopped_new : shared n y f ≡ true → Stopped a M n i f w' d y
    stopped_new z = record {
      pivots = pivots_with (bit_of p) bit.0;
      rows = rows_with d (bits σ b 1) (bit_of y);
      base = base_with n (bit_of p) (bits σ b 0) (bit_of y) bit.0;
      coef = coef_with n d (bit_of p) (bits σ b 0) C (bit_of y) bit.0;
      made = with_row H.made k l (alone d);
      count = suc d;
      upto = k;
      next = suc l;
      search = grown a (auto_by M n i f) d k l (bit_of p) (bits σ b 1) (bits σ b 0) C (from_in w) (by_in w) H.made hk hl H.search (bit_of y) (λ j. ap (λ u. bit_of u j) hy ∙ bit_product n (cell σ b 1 k) (M l) j) (bit_high n low) bit.0 bit.2
          (from_in w') (by_in w') (linked_from w d k l new_below) (linked_from_new w d k l new_below H.trail) (linked_by w d k l new_below) (linked_by_new w d k l new_below H.trail);
      inside = (omega arith, omega arith, omega arith);
      row = λ j. ap (λ R. R j) (new_row d (bits σ b 1) (bit_of y));
      found = z;
      first = λ r h. ap (λ R. xor_below n (λ j. R j && bit_of f j)) (old_row d (bits σ b 1) (bit_of y) r h) ∙ H.none r h;
    }

    -- It is not, and is added.
    pub hunting_new : shared n y f ≡ false → (b' : List ℕ) (d' p' v' : ℕ) (C' : ℕ → ℕ → Bool) (c : ℕ → Bool) → New σ n d y C' c b b' d' p' v' → Hunting σ a M n i f b' w' d' k (l + 1) p' v' × (d ≤ d')
    hunting_new z b' d' p' v' C' c N = (
      record {
        coef = C';
        made = made';
        search = search_new_row σ a M n i f b C (from_in w) (by_in w) H.made d k l p H.search hk hl v d' p' v' C' c b' made' (λ x j h g. with_kept H.made k l c x j) (with_new H.made k l c)
            (from_in w') (by_in w') (linked_from w d k l new_below) (linked_from_new w d k l new_below H.trail) (linked_by w d k l new_below) (linked_by_new w d k l new_below H.trail) (subst (λ z. New σ n d z C' c b b' d' p' v') hy N);
        cover = placed_cover σ n d p v y C C' c b b' d' p' v' H.cover (inr N);
        base = omega (arith, N.size, H.base);
        fits = H.fits;
        trail = linked_length w d k l new_below ∙ H.trail;
        none = λ r h. up_to {Q = λ r. accepted σ n b' f r ≡ false} d (λ r h. ap (λ x. shared n x f) (N.row_old r h) ∙ H.none r h) (ap (λ x. shared n x f) N.row_new ∙ z) r (omega (arith, N.count));
      },
      omega (arith, N.count),
    )
      where
        made' : ℕ → ℕ → ℕ → Bool
        made' = with_row H.made k l c

-- The next row, from its first letter.
pub hunting_next : (σ a : ℕ) (M : ℕ → ℕ → ℕ) (n i f : ℕ) (b : List ℕ) (w : List Step) (d k p v : ℕ) → Hunting σ a M n i f b w d k a p v → Hunting σ a M n i f b w d (k + 1) 0 p v
hunting_next σ a M n i f b w d k p v H = record {
  coef = H.coef;
  made = H.made;
  search = rw (add-one k) (search_next a (auto_by M n i f) (bit_of p) (bits σ b 1) (bits σ b 0) H.coef (from_in w) (by_in w) H.made d k H.search);
  cover = H.cover;
  base = H.base;
  fits = H.fits;
  trail = H.trail;
  none = H.none;
}

-- A row found is one of as many rows as a row has bits.
pub stopped_bound : (a : ℕ) (M : ℕ → ℕ → ℕ) (n i f : ℕ) (w : List Step) (r x : ℕ) → Stopped a M n i f w r x → r < n
stopped_bound a M n i f w r x H = omega (arith, independent_bound n H.count H.rows H.search.basis.free, H.inside.0)
