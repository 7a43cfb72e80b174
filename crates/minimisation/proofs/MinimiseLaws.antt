-- The columns that words reach, the automaton folded onto their pivots, and one reduction of that: the minimal automaton.
use mathlib.Core.Path.{◌≡◌, refl, ap, ◌∙◌}
use mathlib.Core.Bool.{Bool, ◌&&◌, and-false}
use mathlib.Core.List.{List}
use Prim.Native.Nat.{ℕ}
use Rattle.automata.specs.Automaton.{Automaton, accepts}
use Rattle.automata.specs.Language.{Same}
use Rattle.automata.specs.Mask.{bit_of}
use Rattle.automata.specs.Minimal.{SameBits}
use Rattle.automata.specs.Operations.{mirror_of}
use Rattle.automata.specs.Tree.{Tree}
use Rattle.automata.specs.MinimalOf.{minimal_of, dimension_of}
use Rattle.automata.specs.Fields.{fields}
use Rattle.automata.proofs.Xor.{xor_none}
use Rattle.automata.proofs.Dimension.{dimension_same}
use Rattle.automata.proofs.Fields.{same_fields}
use Rattle.automata.proofs.Tree.{tree_bits}
use Rattle.rows.specs.Row.{width}
use Rattle.rows.specs.Machine.{auto, Bounded}
use Rattle.rows.proofs.BitLaws.{bits_lt}
use Rattle.basis.specs.Basis.{cell, bits}
use Rattle.elimination.specs.Place.{BasisIn}
use Rattle.transpose.specs.Transposed.{Transposed}
use Rattle.reduction.specs.Tables.{ReducesUpTo}
use Rattle.observation.specs.Observed.{Observed, folded_of}
use Rattle.observation.specs.Explore.{Explored}
use Rattle.observation.proofs.FoldLaws.{folded_minimal}
use Rattle.observation.proofs.ObservedLaws.{observed}
use Rattle.folding.specs.Folding.{LowAt, Folds}
use Rattle.minimisation.specs.Minimises.{Minimises, MinimisesUpTo}

pub transposed_bounded : (a n i f : ℕ) (t s : List ℕ) → Bounded a t n i f → Transposed a n t s → Bounded a s n f i
transposed_bounded a n i f t s ok T = record { states = ok.states; letters = ok.letters; size = T.size; initial = ok.finals; finals = ok.initial; rows = T.low }

-- The transposed table, initial row and final column exchanged, holds the mirror.
pub transposed_bits : (a n i f : ℕ) (t s : List ℕ) → Transposed a n t s → SameBits a (auto s n f i) (mirror_of (auto t n i f))
transposed_bits a n i f t s T = record { states = refl; initial = λ k h. refl; final = λ k h. refl; step = λ l k j hl hk hj. T.rows l k hl hk j hj }

-- The basis of the rows that words reach in the mirror is one of the columns.
explored_columns : (a : ℕ) (t : List ℕ) (n i f : ℕ) (u b : List ℕ) (d p v : ℕ) → Transposed a n t u → Explored a u n f i b d p v → Observed a (auto t n i f) (bit_of p) (bits width b 0)
explored_columns a t n i f u b d p v T X = observed a (auto t n i f) u f i (transposed_bits a n i f t u T) b d p v X

-- Its rows are as short as those that words reach.
pub explored_low : (a : ℕ) (u : List ℕ) (n i f : ℕ) (b : List ℕ) (d p v : ℕ) → Explored a u n i f b d p v → LowAt n p b
explored_low a u n i f b d p v X k h e = bits_lt (cell width b 0 k) n (λ j g. F.sum k h e j ∙ xor_none d (λ r q. ap (λ z. X.found.coef k r && z) (F.thin r q j g) ∙ and-false (X.found.coef k r)))
  where
    F : BasisIn width n d p X.found.coef b
    F = X.found.basis

-- The table t' holds the folded automaton; a whole search over it finds e rows, and if these are of use s is its reduction.
pub once : (a : ℕ) (t : List ℕ) (n i f : ℕ) (u b : List ℕ) (d p v : ℕ) (t' : List ℕ) (r x y : ℕ) (b' s : List ℕ) (most e i' f' : ℕ)
    → Transposed a n t u → Explored a u n f i b d p v → Folds a (auto t n i f) p b t' r x y → ReducesUpTo a t' r x y b' s most e i' f' → MinimisesUpTo a (auto t n i f) s most e i' f'
once a t n i f u b d p v t' r x y b' s most e i' f' T X F (C, S) =
    let dimension = (minimal C.reduced C.rows C.from C.by C.tree).1 in
    (dimension, λ h. record { bounded = (S h).bounded; same_fields = (minimal (auto s e i' f') (bits width b' 1) (S h).from (S h).by (S h).tree).0; dimension = dimension })
  where
    A : Automaton
    A = auto t n i f

    minimal : (B : Automaton) (R : ℕ → ℕ → Bool) (from by : ℕ → ℕ) → Tree a (auto t' r x y) B e R from by → (fields a B ≡ fields a (minimal_of a A)) × (e ≡ dimension_of a A)
    minimal B R from by G = folded_minimal a A B (bit_of p) (bits width b 0) (explored_columns a t n i f u b d p v T X) r F.σ F.listed e R from by
        (tree_bits a (folded_of A (bits width b 0) r F.σ) (auto t' r x y) B e R from by F.same G)

-- What is minimal for one automaton is minimal for every other with the same words.
pub minimises_same : (a : ℕ) (A B : Automaton) (s : List ℕ) (d i f : ℕ) → Same a (accepts A) (accepts B) → Minimises a A s d i f → Minimises a B s d i f
minimises_same a A B s d i f same M = record {
  bounded = M.bounded;
  same_fields = M.same_fields ∙ same_fields a A B same;
  dimension = M.dimension ∙ dimension_same a A B same;
}
