-- The search for a basis of the rows that words reach, row by row.
use mathlib.Core.Path.{◌≡◌, refl, sym, ap, subst, ◌∙◌}
use mathlib.Core.Bool.{Bool, true, false, ◌&&◌, cond}
use mathlib.Core.List.{List, [], ◌∷◌}
use mathlib.Core.Logic.{◌⊎◌, inl, inr}
use Prim.Native.Nat.{ℕ, suc, ◌+◌, ◌^◌, ◌<◌, ◌≤◌}
use native.Mathlib.Numerals.{add-one}
use native.Mathlib.Omega.{arith}
use lib.Dec.{eqb}
use lib.Bits.{bit_or}
use lib.ListN.{length}
use Rattle.automata.specs.Xor.{◌⊕◌, comb}
use Rattle.automata.specs.Automaton.{Automaton}
use Rattle.automata.specs.Mask.{bit_of}
use Rattle.automata.specs.Word.{Over}
use Rattle.automata.proofs.Below.{up_to}
use Rattle.automata.proofs.Xor.{xor_false, xor_cong, xor_pick, xor_zero, bool_cases}
use Rattle.rows.specs.Row.{width}
use Rattle.rows.specs.Table.{at}
use Rattle.rows.specs.Product.{product}
use Rattle.rows.specs.Machine.{auto, Bounded}
use Rattle.rows.proofs.ProductLaws.{bit_product}
use Rattle.basis.specs.Basis.{basis_size, cell, bits}
use Rattle.elimination.specs.Echelon.{rest, onto}
use Rattle.elimination.specs.Place.{BasisIn, Placed}
use Rattle.elimination.proofs.EchelonLaws.{gt_differ, room, onto_coef, coef_short}
use Rattle.elimination.proofs.PlaceLaws.{if_same, if_other}
use Rattle.reduction.proofs.TableSearch.{count_bound, empty_basis, empty_cover, placed_length, placed_more, placed_kept, placed_cover}
use Rattle.observation.specs.Explore.{along, Spanned, Tried, Found, Grown, Expanded}
use Rattle.observation.proofs.Order.{tried_more}

-- ---- one row placed

module _ (n d p v y : ℕ) (C C' : ℕ → ℕ → Bool) (c : ℕ → Bool) (b b' : List ℕ) (d' p' v' : ℕ) where
  -- It is an xor of rows found, maybe of itself alone.
  placed_spanned : Placed width n d p v y C C' c b b' d' p' v' → Spanned n b' d' (bit_of y)
  placed_spanned (inl O) = rw (O.count, O.table) (record { coef = c; short = O.short; sum = λ j h. O.sum j })
  placed_spanned (inr N) = rw N.count (record {
    coef = c;
    short = λ r h. N.own r ∙ gt_differ r d h;
    sum = λ j h. sym (xor_cong (suc d) (λ i g. ap (λ x. x && bits width b' 1 i j) (N.own i)) ∙ xor_pick (suc d) d (omega arith) (λ i. bits width b' 1 i j) ∙ ap (λ x. bit_of x j) N.row_new);
  })

  still : Placed width n d p v y C C' c b b' d' p' v' → (z : ℕ → Bool) → Spanned n b d z → Spanned n b' d' z
  still (inl O) z S = rw (O.count, O.table) S
  still (inr N) z S = rw N.count (record {
    coef = S.coef;
    short = λ r h. S.short r (omega arith);
    sum = λ j h.
        S.sum j h
        ∙ xor_cong d (λ i g. ap (λ x. S.coef i && bit_of x j) (sym (N.row_old i g)))
        ∙ sym (xor_false (comb d S.coef (bits width b' 1) j))
        ∙ ap (λ x. comb d S.coef (bits width b' 1) j ⊕ (x && bits width b' 1 d j)) (sym (S.short d (omega arith)));
  })

  placed_grown : Placed width n d p v y C C' c b b' d' p' v' → Grown n b d b' d'
  placed_grown P = record { more = placed_more width n d p v y C C' c b b' d' p' v' P; kept = placed_kept width n d p v y C C' c b b' d' p' v' P; spanned = still P }

  placed_basis : BasisIn width n d p C b → Placed width n d p v y C C' c b b' d' p' v' → BasisIn width n d' p' C' b'
  placed_basis F (inl O) = rw (O.count, O.pivots, O.table, O.coef) F
  placed_basis F (inr N) = rw N.count N.basis

-- No row is tried yet.
pub found_start : (a : ℕ) (t : List ℕ) (n i f : ℕ) (b b' : List ℕ) (d p v : ℕ) → length b ≡ basis_size → (C C' : ℕ → ℕ → Bool) (c : ℕ → Bool) → Placed width n 0 0 0 i C C' c b b' d p v → Found a t n i f b' d p v
found_start a t n i f b b' d p v hb C C' c P = record {
  coef = C';
  basis = placed_basis n 0 0 0 i C C' c b b' d p v (empty_basis width n C b) P;
  word = λ r. [];
  over = λ r h. tt;
  reached = first P;
  start = placed_spanned n 0 0 0 i C C' c b b' d p v P;
  cover = placed_cover width n 0 0 0 i C C' c b b' d p v (empty_cover width 0 b) P;
  base = placed_length width n 0 0 0 i C C' c b b' d p v P ∙ hb;
}
  where
    first : Placed width n 0 0 0 i C C' c b b' d p v → (r : ℕ) → r < d → (j : ℕ) → j < n → bits width b' 1 r j ≡ bit_of i j
    first (inl O) r h j g = let e = O.count in absurd (omega arith)
    first (inr N) r h j g =
        let e = N.count in
        let z : r ≡ 0 = omega arith in
        ap (λ k. bits width b' 1 k j) z ∙ ap (λ x. bit_of x j) N.row_new

-- The product y of row k and letter l is placed.
found_step : (a : ℕ) (t : List ℕ) (n i f : ℕ) (b : List ℕ) (d p v : ℕ) (G : Found a t n i f b d p v) → (k l : ℕ) → k < d → l < a → (y : ℕ) → y ≡ product n (cell width b 1 k) (at t l)
    → (C' : ℕ → ℕ → Bool) (c : ℕ → Bool) (b' : List ℕ) (d' p' v' : ℕ) → Placed width n d p v y G.coef C' c b b' d' p' v' → Found a t n i f b' d' p' v'
found_step a t n i f b d p v G k l hk hl y hy C' c b' d' p' v' P = record {
  coef = C';
  basis = placed_basis n d p v y G.coef C' c b b' d' p' v' G.basis P;
  word = word';
  over = over' P;
  reached = reached' P;
  start = still n d p v y G.coef C' c b b' d' p' v' P (bit_of i) G.start;
  cover = placed_cover width n d p v y G.coef C' c b b' d' p' v' G.cover P;
  base = placed_length width n d p v y G.coef C' c b b' d' p' v' P ∙ G.base;
}
  where
    A : Automaton
    A = auto t n i f

    -- A new row comes from row k by letter l.
    word' : ℕ → List ℕ
    word' r = cond (eqb r d) (l ∷ G.word k) (G.word r)

    old : (r : ℕ) → r < d → word' r ≡ G.word r
    old r h = if_other r d (l ∷ G.word k) (G.word r) (omega arith)

    own : word' d ≡ l ∷ G.word k
    own = if_same d (l ∷ G.word k) (G.word d)

    over' : Placed width n d p v y G.coef C' c b b' d' p' v' → (r : ℕ) → r < d' → Over a (word' r)
    over' (inl O) r h = let e = O.count in subst (Over a) (sym (old r (omega arith))) (G.over r (omega arith))
    over' (inr N) r h = up_to {Q = λ r. Over a (word' r)} d (λ r g. subst (Over a) (sym (old r g)) (G.over r g)) (subst (Over a) (sym own) (hl, G.over k hk)) r (subst (λ e. r < e) N.count h)

    reached' : Placed width n d p v y G.coef C' c b b' d' p' v' → (r : ℕ) → r < d' → (j : ℕ) → j < n → bits width b' 1 r j ≡ along A (word' r) j
    reached' (inl O) r h j g =
        let e = O.count in
        let q : r < d = omega arith in
        ap (λ x. bits width x 1 r j) O.table ∙ G.reached r q j g ∙ ap (λ w. along A w j) (sym (old r q))
    reached' (inr N) r h j g = up_to {Q = λ r. (j : ℕ) → j < n → bits width b' 1 r j ≡ along A (word' r) j} d
        (λ r q j g. ap (λ x. bit_of x j) (N.row_old r q) ∙ G.reached r q j g ∙ ap (λ w. along A w j) (sym (old r q)))
        (λ j g.
        ap (λ x. bit_of x j) (N.row_new ∙ hy)
        ∙ bit_product n (cell width b 1 k) (at t l) j
        ∙ xor_cong n (λ m q. ap (λ x. x && bit_of (at t l m) j) (G.reached k hk m q))
        ∙ ap (λ w. along A w j) (sym own))
        r (subst (λ e. r < e) N.count h) j g

-- ---- rows tried

module _ (n : ℕ) (b : List ℕ) (d : ℕ) where
  pub grown_start : Grown n b d b d
  grown_start = record { more = omega arith; kept = λ r h. refl; spanned = λ y S. S }

  module _ (b' : List ℕ) (d' : ℕ) (G : Grown n b d b' d') where
    pub grown_on : (b'' : List ℕ) (d'' : ℕ) → Grown n b' d' b'' d'' → Grown n b d b'' d''
    grown_on b'' d'' H = record { more = omega (arith, G.more, H.more); kept = λ r h. H.kept r (omega (arith, G.more)) ∙ G.kept r h; spanned = λ y S. H.spanned y (G.spanned y S) }

    -- What was tried stays so.
    tried_on : (a : ℕ) (t : List ℕ) (k : ℕ) → k < d → Tried a t n b d k → Tried a t n b' d' k
    tried_on a t k hk T l h = subst (λ x. Spanned n b' d' (bit_of (product n x (at t l)))) (sym (G.kept k hk)) (G.spanned (bit_of (product n (cell width b 1 k) (at t l))) (T l h))

    -- One letter more.
    tried_step : (t : List ℕ) (k l : ℕ) → k < d → Tried l t n b d k → Spanned n b' d' (bit_of (product n (cell width b 1 k) (at t l))) → Tried (l + 1) t n b' d' k
    tried_step t k l hk T S = rw add-one (up_to {Q = λ x. Spanned n b' d' (bit_of (product n (cell width b' 1 k) (at t x)))} l (tried_on l t k hk T) (subst (λ x. Spanned n b' d' (bit_of (product n x (at t l)))) (sym (G.kept k hk)) S))

-- The product y of row k and letter l is placed, whatever coefficients are kept.
pub row_step : (a : ℕ) (t : List ℕ) (n i f : ℕ) (b : List ℕ) (d p v : ℕ) (G : Found a t n i f b d p v) → (k l : ℕ) → k < d → l < a → (y : ℕ) → y ≡ product n (cell width b 1 k) (at t l)
    → (b' : List ℕ) (d' p' v' : ℕ) → ((C : ℕ → ℕ → Bool) → BasisIn width n d p C b → (C' : ℕ → ℕ → Bool) × (c : ℕ → Bool) × Placed width n d p v y C C' c b b' d' p' v')
    → Found a t n i f b' d' p' v' × Grown n b d b' d' × (Tried l t n b d k → Tried (l + 1) t n b' d' k)
row_step a t n i f b d p v G k l hk hl y hy b' d' p' v' I =
    let P = I G.coef G.basis in
    let H = placed_grown n d p v y G.coef P.0 P.1 b b' d' p' v' P.2 in (
      found_step a t n i f b d p v G k l hk hl y hy P.0 P.1 b' d' p' v' P.2,
      H,
      λ T. tried_step n b d b' d' H t k l hk T (subst (λ x. Spanned n b' d' (bit_of x)) hy (placed_spanned n d p v y G.coef P.0 P.1 b b' d' p' v' P.2)),
    )

-- The rows of the mask e are tried.
abbrev pub AllTried : ℕ → List ℕ → ℕ → List ℕ → ℕ → ℕ → Type 0
AllTried a t n b d e = (k : ℕ) → bit_of e k ≡ true → (k < d) × Tried a t n b d k

-- And row k besides.
pub all_tried : (a : ℕ) (t : List ℕ) (n i f : ℕ) (b : List ℕ) (d k : ℕ) (b' : List ℕ) (d' p' v' : ℕ) → Expanded a t n i f b d k b' d' p' v' → k < d → (e u e' : ℕ) → AllTried a t n b d e → u ≡ 2 ^ k → e' ≡ bit_or e u → AllTried a t n b' d' e'
all_tried a t n i f b d k b' d' p' v' X hk e u e' T one more j h = go (tried_more e k u e' one more j h)
  where
    go : (bit_of e j ≡ true) ⊎ (j ≡ k) → (j < d') × Tried a t n b' d' j
    go (inl z) = (omega (arith, (T j z).0, X.grown.more), tried_on n b d b' d' X.grown a t j (T j z).0 (T j z).1)
    go (inr z) = (omega (arith, X.grown.more), rw z X.tried)

-- There are at most as many rows as bits.
pub found_bound : (a : ℕ) (t : List ℕ) (n i f : ℕ) → Bounded a t n i f → (b : List ℕ) (d p v : ℕ) → Found a t n i f b d p v → d ≤ width
found_bound a t n i f ok b d p v G = omega (arith, count_bound width n d p G.coef b G.basis, ok.states)

-- Where there are as many rows as states, every row is an xor of them.
pub full_spanned : (a : ℕ) (t : List ℕ) (n i f : ℕ) (b : List ℕ) (d p v : ℕ) → Found a t n i f b d p v → d ≡ n → (y : ℕ → Bool) → Spanned n b d y
full_spanned a t n i f b d p v G e y = record {
  coef = onto n (bit_of p) G.coef y;
  short = λ r h. coef_short n d (bit_of p) (bits width b 1) (bits width b 0) G.coef G.basis y r h;
  sum = λ j h. xor_zero (none j h (bool_cases (rest n (bit_of p) (bits width b 0) y j))) ∙ onto_coef n d (bit_of p) (bits width b 1) (bits width b 0) G.coef G.basis y j;
}
  where
    none : (j : ℕ) → j < n → (rest n (bit_of p) (bits width b 0) y j ≡ true) ⊎ (rest n (bit_of p) (bits width b 0) y j ≡ false) → rest n (bit_of p) (bits width b 0) y j ≡ false
    none j h (inl q) = let r = room n d (bit_of p) (bits width b 1) (bits width b 0) G.coef G.basis y j h q in absurd (omega arith)
    none j h (inr q) = q
