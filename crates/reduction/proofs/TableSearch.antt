-- The search in tables.
use mathlib.Core.Path.{◌≡◌, refl, sym, ap, ap₂, subst, ◌∙◌}
use mathlib.Core.Bool.{Bool, false, ◌&&◌, cond, and-false, and-true}
use mathlib.Core.List.{List}
use mathlib.Core.Logic.{inl, inr}
use Prim.Native.Nat.{ℕ, ◌+◌, ◌*◌, ◌^◌, ◌<◌, ◌≤◌}
use native.Mathlib.Nat.{not-suc-le-zero}
use native.Mathlib.Numerals.{add-one}
use native.Mathlib.Omega.{arith}
use lib.ListN.{length}
use lib.Dec.{eqb}
use lib.Bits.{bit_and, bit_xor}
use Rattle.automata.specs.Xor.{◌⊕◌}
use Rattle.automata.specs.Mask.{bit_of}
use Rattle.automata.specs.Tree.{Tree}
use Rattle.automata.proofs.Xor.{xor_false, eqb_same, eqb_differ}
use Rattle.automata.proofs.Below.{up_to}
use Rattle.automata.proofs.Dependence.{independent_bound}
use Rattle.rows.specs.Row.{width}
use Rattle.rows.specs.Table.{blocks, size, at, row, stored}
use Rattle.rows.specs.Product.{product}
use Rattle.rows.specs.Machine.{auto_by, auto, Bounded}
use Rattle.rows.proofs.BitLaws.{bit_xor_lem, bit_none, bit_high, bits_lt}
use Rattle.rows.proofs.ProductLaws.{bit_product, product_lt}
use Rattle.rows.proofs.TableLaws.{length_stored, stored_same, stored_other}
use Rattle.basis.specs.Basis.{basis_size, cell, bits}
use Rattle.lookup.specs.Lookup.{chosen}
use Rattle.lookup.proofs.LookupLaws.{product_width, chosen_product}
use Rattle.elimination.specs.Echelon.{onto}
use Rattle.elimination.specs.Place.{BasisIn, Covered, LeftOf, Old, New, Placed}
use Rattle.elimination.proofs.EchelonLaws.{no_echelon, gt_differ}
use Rattle.elimination.proofs.PlaceLaws.{if_same, if_other, pivots_low, left_of_lem, on_pivots, place_old, full_left}
use Rattle.reduction.specs.Tables.{SearchIn, Searching, Searched, Coefficients, accepted, Counts, Reduces, Column}
use Rattle.reduction.proofs.SearchLaws.{search_none, search_first, search_next, search_old, search_new, search_tree}
use Rattle.reduction.proofs.Complete.{found_all}

pub count_bound : (σ n d p : ℕ) (C : ℕ → ℕ → Bool) (b : List ℕ) → BasisIn σ n d p C b → d ≤ n
count_bound σ n d p C b F = independent_bound n d (bits σ b 1) F.free

pub empty_basis : (σ n : ℕ) (C : ℕ → ℕ → Bool) (b : List ℕ) → BasisIn σ n 0 0 C b
empty_basis σ n C b = no_echelon n (bit_of 0) (bits σ b 1) (bits σ b 0) C bit_none

pub empty_cover : (σ v : ℕ) (b : List ℕ) → Covered σ 0 v b
empty_cover σ v b i k h = absurd (not-suc-le-zero h)

-- ---- a row placed

module _ (σ n d p v y : ℕ) (C C' : ℕ → ℕ → Bool) (c : ℕ → Bool) (t s : List ℕ) (d' p' v' : ℕ) where
  pub placed_length : Placed σ n d p v y C C' c t s d' p' v' → length s ≡ length t
  placed_length (inl O) = ap length O.table
  placed_length (inr N) = N.size

  pub placed_more : Placed σ n d p v y C C' c t s d' p' v' → d ≤ d'
  placed_more (inl O) = let e = O.count in omega arith
  placed_more (inr N) = let e = N.count in omega arith

  -- The rows found before are as they were.
  pub placed_kept : Placed σ n d p v y C C' c t s d' p' v' → (r : ℕ) → r < d → cell σ s 1 r ≡ cell σ t 1 r
  placed_kept (inl O) r h = ap (λ u. cell σ u 1 r) O.table
  placed_kept (inr N) r h = N.row_old r h

  pub placed_cover : Covered σ d v t → Placed σ n d p v y C C' c t s d' p' v' → Covered σ d' v' s
  placed_cover K (inl O) = rw (O.count, O.used, O.table) K
  placed_cover K (inr N) = rw N.count N.cover

-- ---- the search

-- The initial row is placed first. S are the products done: none yet.
pub search_start : (σ a : ℕ) (M : ℕ → ℕ → ℕ) (n i f : ℕ) (C C' : ℕ → ℕ → Bool) (c : ℕ → Bool) (b b' : List ℕ) (from by : ℕ → ℕ) (S : ℕ → ℕ → ℕ → Bool) (d p v : ℕ) → Placed σ n 0 0 0 i C C' c b b' d p v → SearchIn σ a M n i f b' C' from by S d 0 0 p
search_start σ a M n i f C C' c b b' from by S d p v (inl O) =
    rw (O.count, O.pivots, O.table, O.coef) (search_none a (auto_by M n i f) (bit_of 0) (bits σ b 1) (bits σ b 0) C from by S bit_none (λ j. O.sum j))
search_start σ a M n i f C C' c b b' from by S d p v (inr N) =
    rw N.count (search_first a (auto_by M n i f) (bit_of p) (bits σ b' 1) (bits σ b' 0) C' from by S N.basis (λ j. ap (λ v. bit_of v j) N.row_new))

pub searching_start : (a : ℕ) (t : List ℕ) (n i f : ℕ) (b b' s : List ℕ) (c d p v : ℕ) → length b ≡ basis_size → length s ≡ size → Placed width n 0 0 0 i (bits width b 2) (bits width b' 2) (bit_of c) b b' d p v → Searching a t n i f b' s d 0 0 p v
searching_start a t n i f b b' s c d p v hb hs P = record {
  from = λ r. 0;
  by = λ r. 0;
  search = search_start width a (at t) n i f (bits width b 2) (bits width b' 2) (bit_of c) b b' (λ r. 0) (λ r. 0) (row s) d p v P;
  cover = placed_cover width n 0 0 0 i (bits width b 2) (bits width b' 2) (bit_of c) b b' d p v (empty_cover width 0 b) P;
  base = placed_length width n 0 0 0 i (bits width b 2) (bits width b' 2) (bit_of c) b b' d p v P ∙ hb;
  out = hs;
}

-- The coordinates of the initial row: row 0 alone, where there is a row. The rows found later are e in all.
pub start_row : (σ n i : ℕ) (C C' : ℕ → ℕ → Bool) (b b' : List ℕ) (c d p v e : ℕ) → Placed σ n 0 0 0 i C C' (bit_of c) b b' d p v → d ≤ e → (d ≡ 0 → e ≡ 0) → ((k : ℕ) → k < e → bit_of c k ≡ eqb k 0) × (c < 2 ^ e)
start_row σ n i C C' b b' c d p v e (inl O) h z =
    let w : e ≡ 0 = z O.count in
    (λ k g. absurd (omega arith), rw w (bits_lt c 0 (λ j g. O.short j g)))
start_row σ n i C C' b b' c d p v e (inr N) h z =
    let w : d ≡ 1 = N.count in (λ k g. N.own k, bits_lt c e (λ j g. N.own j ∙ gt_differ j 0 (omega arith)))

-- One pair: the product of row k and letter l is placed. S are the products done, whatever holds them.
module _ (σ a : ℕ) (M : ℕ → ℕ → ℕ) (n i f : ℕ) (b : List ℕ) (C : ℕ → ℕ → Bool) (from by : ℕ → ℕ) (S : ℕ → ℕ → ℕ → Bool) (d k l p : ℕ) (G : SearchIn σ a M n i f b C from by S d k l p) (hk : k < d) (hl : l < a)
    (v d' p' v' : ℕ) (C' : ℕ → ℕ → Bool) (c : ℕ → Bool) (b' : List ℕ) (S' : ℕ → ℕ → ℕ → Bool) (kept : (x j : ℕ) → x < a → j < d → ((j ≡ k) × (x ≡ l) → ⊥) → S' x j ≡ S x j) (written : S' l k ≡ c) where
  -- It is an xor of rows found.
  pub search_old_row : Old σ d p v (product n (cell σ b 1 k) (M l)) C C' c b b' d' p' v' → SearchIn σ a M n i f b' C' from by S' d' k (l + 1) p'
  search_old_row O =
      rw (O.count, O.pivots, O.table, O.coef, add-one l)
      (search_old a (auto_by M n i f) d k l (bit_of p) (bits σ b 1) (bits σ b 0) C from by S G hk hl S' kept c (λ j. sym (bit_product n (cell σ b 1 k) (M l) j) ∙ O.sum j) O.short written)

  -- It is a new row.
  pub search_new_row : (from' by' : ℕ → ℕ) → ((r : ℕ) → r < d → from' r ≡ from r) → from' d ≡ k → ((r : ℕ) → r < d → by' r ≡ by r) → by' d ≡ l
      → New σ n d (product n (cell σ b 1 k) (M l)) C' c b b' d' p' v' → SearchIn σ a M n i f b' C' from' by' S' d' k (l + 1) p'
  search_new_row from' by' from_old from_new by_old by-new N =
      rw (N.count, add-one l)
      (search_new a (auto_by M n i f) d k l (bit_of p) (bits σ b 1) (bits σ b 0) C from by S G hk hl S' kept
      (bit_of p') (bits σ b' 1) (bits σ b' 0) C' from' by' N.basis
      (λ r h j. ap (λ v. bit_of v j) (N.row_old r h)) (λ j. ap (λ v. bit_of v j) N.row_new ∙ bit_product n (cell σ b 1 k) (M l) j)
      from_old from_new by_old by-new (λ r. ap (λ u. u r) written ∙ N.own r))

  -- It is one or the other; a new row comes from row k by letter l.
  pub search_placed : Placed σ n d p v (product n (cell σ b 1 k) (M l)) C C' c b b' d' p' v' → (from' : ℕ → ℕ) × (by' : ℕ → ℕ) × SearchIn σ a M n i f b' C' from' by' S' d' k (l + 1) p'
  search_placed (inl O) = (from, by, search_old_row O)
  search_placed (inr N) = (
    λ r. cond (eqb r d) k (from r),
    λ r. cond (eqb r d) l (by r),
    search_new_row (λ r. cond (eqb r d) k (from r)) (λ r. cond (eqb r d) l (by r))
        (λ r h. if_other r d k (from r) (omega arith)) (if_same d k (from d)) (λ r h. if_other r d l (by r) (omega arith)) (if_same d l (by d)) N,
  )

-- The products in a table.
pub searching_step : (a : ℕ) (t : List ℕ) (n i f : ℕ) → Bounded a t n i f → (b s : List ℕ) (d k l p v : ℕ) → Searching a t n i f b s d k l p v → k < d → l < a
    → (y : ℕ) → y ≡ product n (cell width b 1 k) (at t l) → (c d' p' v' : ℕ) (b' s' : List ℕ) → Placed width n d p v y (bits width b 2) (bits width b' 2) (bit_of c) b b' d' p' v' → s' ≡ stored s l k c → Searching a t n i f b' s' d' k (l + 1) p' v'
searching_step a t n i f ok b s d k l p v G hk hl y hy c d' p' v' b' s' P e = record {
  from = next.0;
  by = next.1;
  search = next.2;
  cover = placed_cover width n d p v y (bits width b 2) (bits width b' 2) (bit_of c) b b' d' p' v' G.cover P;
  base = placed_length width n d p v y (bits width b 2) (bits width b' 2) (bit_of c) b b' d' p' v' P ∙ G.base;
  out = ap length e ∙ length_stored s l k c ∙ G.out;
}
  where
    hd : d ≤ width
    hd = omega (arith, count_bound width n d p (bits width b 2) b G.search.basis, ok.states)

    ha : a ≤ blocks
    ha = ok.letters

    kept : (x j : ℕ) → x < a → j < d → ((j ≡ k) × (x ≡ l) → ⊥) → row s' x j ≡ row s x j
    kept x j h g z = ap (λ u. row u x j) e ∙ ap bit_of (stored_other s l k c x j (omega (arith, hd)) (omega (arith, hd)) (λ w. z (sym w.1, sym w.0)))

    written : row s' l k ≡ bit_of c
    written = ap (λ u. row u l k) e ∙ ap bit_of (stored_same s l k c G.out (omega (arith, ha)) (omega (arith, hd)))

    next : (from' : ℕ → ℕ) × (by' : ℕ → ℕ) × SearchIn width a (at t) n i f b' (bits width b' 2) from' by' (row s') d' k (l + 1) p'
    next = search_placed width a (at t) n i f b (bits width b 2) G.from G.by (row s) d k l p G.search hk hl v d' p' v' (bits width b' 2) (bit_of c) b' (row s') kept written (rw hy at P)

-- As many rows are found as there are states: the product y is an xor of them, c by the table of the coefficients, and the basis stays.
pub searching_full : (a : ℕ) (t : List ℕ) (n i f : ℕ) → Bounded a t n i f → (b s : List ℕ) (d k l p v : ℕ) → Searching a t n i f b s d k l p v → k < d → l < a → d ≡ n
    → (y : ℕ) → y ≡ product n (cell width b 1 k) (at t l) → (g : ℕ) (tab : List ℕ) → Coefficients g p b tab → (c : ℕ) → c ≡ product (g * 4) y (chosen p (cell width b 2)) → (s' : List ℕ) → s' ≡ stored s l k c
    → Searching a t n i f b s' d k (l + 1) p v
searching_full a t n i f ok b s d k l p v G hk hl full y hy g tab K c hc s' e =
    searching_step a t n i f ok b s d k l p v G hk hl y hy c d p v b s' (inl (place_old width n d p v y b (bits width b 2) F low left left_is (bit_of c) named none)) e
  where
    F : BasisIn width n d p (bits width b 2) b
    F = G.search.basis

    low : y < 2 ^ n
    low = subst (λ x. x < 2 ^ n) (sym hy) (product_lt n n (cell width b 1 k) (at t l) (λ j h. ok.rows l j hl h))

    z : ℕ
    z = bit_and y p

    z_low : z < 2 ^ n
    z_low = pivots_low n n y p refl low (omega arith)

    left : ℕ
    left = bit_xor y (product n z (cell width b 0))

    left_is : LeftOf width p y b left
    left_is = left_of_lem width p y b z (product n z (cell width b 0)) left refl (λ m. product_width n m z (cell width b 0) z_low) refl

    none : left ≡ 0
    none = full_left width n d p v y b (bits width b 2) F low left left_is (omega arith)

    named : (r : ℕ) → bit_of c r ≡ onto n (bit_of p) (bits width b 2) (bit_of y) r
    named = on_pivots width n p y b refl 2 c (hc ∙ chosen_product (g * 4) p y (cell width b 2) K.all n z_low)

pub searching_next : (a : ℕ) (t : List ℕ) (n i f : ℕ) (b s : List ℕ) (d k p v : ℕ) → Searching a t n i f b s d k a p v → Searching a t n i f b s d (k + 1) 0 p v
searching_next a t n i f b s d k p v G = record {
  from = G.from;
  by = G.by;
  search = rw (add-one k) (search_next a (auto t n i f) (bit_of p) (bits width b 1) (bits width b 0) (bits width b 2) G.from G.by (row s) d k G.search);
  cover = G.cover;
  base = G.base;
  out = G.out;
}

-- ---- the end of the search

-- A whole search finds no more rows.
pub searched_counts : (a : ℕ) (t : List ℕ) (n i f : ℕ) → Bounded a t n i f → (b s : List ℕ) (most d p v : ℕ) → Searched a t n i f b s most d p v → Counts a t n i f d
searched_counts a t n i f ok b s most d p v X =
    let G = X.searching in
    let K = found_all a (auto t n i f) (λ l k j hl hk hj. bit_high n (ok.rows l k hl hk) j hj) d X.upto (bit_of p) (bits width b 1) (bits width b 0) (bits width b 2) G.from G.by (row s) G.search X.within X.enough in
    let W = K.0 in
    record { reduced = W.reduced; rows = W.all; from = W.from_all; by = W.by_all; tree = subst (λ c. Tree a (auto t n i f) W.reduced c W.all W.from_all W.by_all) K.1 W.tree }

-- Every pair is done.
pub searched_end : (a : ℕ) (t : List ℕ) (n i f : ℕ) → Bounded a t n i f → (b s : List ℕ) (most d p v c r : ℕ) → Searched a t n i f b s most d p v → d ≤ most
    → ((k : ℕ) → k < d → bit_of c k ≡ eqb k 0) → c < 2 ^ d → Column n b d f r → r < 2 ^ d → Reduces a t n i f b s d c r
searched_end a t n i f ok b s most d p v c r X few hc lc hr lr = record {
  from = G.from;
  by = G.by;
  tree = search_tree a (auto t n i f) (auto s d c r) d (bit_of p) (bits width b 1) (bits width b 0) (bits width b 2) G.from G.by G.search refl hc hr;
  bounded = record {
    states = omega (arith, count_bound width n d p (bits width b 2) b G.search.basis, ok.states);
    letters = ok.letters;
    size = G.out;
    initial = lc;
    finals = lr;
    rows = λ l k h g. bits_lt (at s l k) d (λ j e. G.search.short l k j h g (inl g) e);
  };
  base = G.base;
}
  where
    G : Searching a t n i f b s d d 0 p v
    G = subst (λ k. Searching a t n i f b s d k 0 p v) (X.whole few) X.searching

-- ---- the final column

-- The first m rows are done.
pub record Counted (n : ℕ) (b : List ℕ) (m f r : ℕ) : Type 0 where
  pub column : Column n b m f r
  pub above : (k : ℕ) → m ≤ k → bit_of r k ≡ false

pub counted_start : (n : ℕ) (b : List ℕ) (f : ℕ) → Counted n b 0 f 0
counted_start n b f = record { column = λ k h. absurd (not-suc-le-zero h); above = λ k h. bit_none k }

-- u is the bit m where the row shares an odd number of bits with f, and has no bit otherwise.
pub counted_step : (n : ℕ) (b : List ℕ) (m f r u : ℕ) (o : Bool) → o ≡ accepted width n b f m → ((k : ℕ) → bit_of u k ≡ o && eqb k m) → Counted n b m f r → Counted n b (m + 1) f (bit_xor r u)
counted_step n b m f r u o ho hu C = rw add-one (record {
  column = up_to m (λ k h. bit_xor_lem k r u ∙ ap₂ ◌⊕◌ (C.column k h) (hu k ∙ ap (λ e. o && e) (eqb_differ {m = k} {n = m} (omega arith)) ∙ and-false o) ∙ xor_false (accepted width n b f k))
      (bit_xor_lem m r u ∙ ap₂ ◌⊕◌ (C.above m (omega arith)) (hu m ∙ ap (λ e. o && e) (eqb_same m) ∙ and-true o) ∙ ho);
  above = λ k h. bit_xor_lem k r u ∙ ap₂ ◌⊕◌ (C.above k (omega arith)) (hu k ∙ ap (λ e. o && e) (gt_differ k m h) ∙ and-false o);
})

pub counted_low : (n : ℕ) (b : List ℕ) (m f r : ℕ) → Counted n b m f r → r < 2 ^ m
counted_low n b m f r C = bits_lt r m C.above

pub found_low : (σ n d p : ℕ) (C : ℕ → ℕ → Bool) (b : List ℕ) → BasisIn σ n d p C b → (r : ℕ) → r < d → cell σ b 1 r < 2 ^ n
found_low σ n d p C b F r h = bits_lt (cell σ b 1 r) n (F.thin r h)
