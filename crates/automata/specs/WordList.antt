-- Lists of words: all words of a length, and below a length, in shortlex order; the first word at which a test holds.
use Rattle.std.specs.Prelude.{Bool, true, ◌&&◌, cond, List, [], ◌∷◌, ◌++◌, map, ℕ, zero, suc}
use Rattle.std.proofs.Math.Option.{Option, none, some}

-- The lists f 0, f 1, … below k, end to end.
abbrev pub join_below : {X : Type 0} → ℕ → (ℕ → List X) → List X
join_below zero f = []
join_below (suc k) f = join_below k f ++ f k

-- The words of length n over a letters.
abbrev pub words_of_length : ℕ → ℕ → List (List ℕ)
words_of_length a zero = [] ∷ []
words_of_length a (suc n) = join_below a (λ l. map (λ w. l ∷ w) (words_of_length a n))

-- The words shorter than n over a letters.
abbrev pub words_below : ℕ → ℕ → List (List ℕ)
words_below a n = join_below n (words_of_length a)

-- Whether f holds at everything in a list.
abbrev pub all_of : {X : Type 0} → (X → Bool) → List X → Bool
all_of f [] = true
all_of f (x ∷ xs) = f x && all_of f xs

-- The first word of a list at which f holds.
abbrev pub first_of : (List ℕ → Bool) → List (List ℕ) → Option (List ℕ)
first_of f [] = none
first_of f (w ∷ ws) = cond (f w) (some w) (first_of f ws)
