-- `reduce`: the initial row is placed first, the search does every pair, and the column tells the final states.
use mathlib.Core.Path.{◌≡◌, refl}
use mathlib.Core.List.{List}
use Prim.Native.Nat.{ℕ}
use native.Mathlib.Omega.{arith}
use borrow.Author.Rules.{rules}
use Rattle.automata.specs.Mask.{bit_of}
use Rattle.rows.specs.Row.{width, mask}
use Rattle.basis.specs.Basis.{bits}
use Rattle.elimination.specs.Place.{Placed}
use Rattle.reduction.specs.Tables.{ReducesUpTo}
use Rattle.reduction.proofs.TableSearch.{count_bound, found_low, searching_start, start_row, searched_counts, searched_end}
use Rattle.reduction.proofs.reduce.Goals.{After-place-q}
use Rattle.reduction.proofs.reduce.Goals as goal

-- The basis was empty before the initial row.
placed : (c : After-place-q) → Placed width c.args.x.machine.states 0 0 0 (mask c.args.x.machine.initial) (bits width c.args.b.now 2) (bits width c.place-q.new.b 2) (bit_of (mask c.place-q.result.row)) c.args.b.now c.place-q.new.b c.place-q.result.size.count (mask c.place-q.result.size.pivots) (mask c.place-q.result.size.used)
placed c = let e = c.empty.ensures in rw (e.0, e.1, e.2) at c.place-q.ensures

pub search-requires : goal.search-requires
search-requires c = searching_start _ _ _ _ _ _ _ _ _ _ _ _ (omega arith) (omega arith) (placed (goal.at.search-requires c).After-place-q)

pub column-c-requires : goal.column-c-requires
column-c-requires c =
    let B = c.search.ensures.0.searching.search.basis in
    (omega (arith, count_bound _ _ _ _ _ _ B, c.search.new.self.source.valid.states), rw (← c.search.ensures.1.source) (found_low _ _ _ _ _ _ B))

-- What the search leaves in its tables stands in those that were lent.
lent : (a : ℕ) (t : List ℕ) (n i f : ℕ) (b b' s s' : List ℕ) (most d i' f' : ℕ) → b' ≡ b → s' ≡ s → ReducesUpTo a t n i f b s most d i' f' → ReducesUpTo a t n i f b' s' most d i' f'
lent a t n i f b b' s s' most d i' f' e g R = rw (e, g) R

pub returns : goal.returns
returns c =
    let e = c.search.ensures in
    let ok = c.args.x.valid in
    let X = rw e.1.source at e.0 in
    let k = c.column-c.ensures in
    let i = start_row _ _ _ _ _ _ _ _ _ _ _ _ (placed (goal.at.returns c).After-place-q) e.1.more e.2 in
    (refl, lent _ _ _ _ _ _ _ _ _ _ _ _ _ (search rules) (search rules) (searched_counts _ _ _ _ _ ok _ _ _ _ _ _ X, λ h. searched_end _ _ _ _ _ ok _ _ _ _ _ _ _ _ X h i.0 i.1 k.0 k.1))
