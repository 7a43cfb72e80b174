-- The search of a reduction, by the struct that holds its tables.
--   Before r k l     the search before the pair (k, l): row k by letter l
--   After r most     the search is over; of no more than `most` rows every pair is done
--   Product r k l y  y is row k of the basis times letter l
--   Follows r r'     r' is r some pairs later: the same automaton and tables, and no fewer rows found
--   Filled r r'      the same where just the products are added to
use Rattle.std.specs.Prelude.{◌≡◌, ℕ, ◌≤◌}
use Rattle.rows.specs.Row.{width, mask}
use Rattle.rows.specs.Table.{at}
use Rattle.rows.specs.Product.{product}
use Rattle.basis.specs.Basis.{cell}
use Rattle.reduction.specs.declared.Reduction.{Reduction}
use Rattle.reduction.specs.Tables.{Searching, Searched}

abbrev pub Before : Reduction → ℕ → ℕ → Type 0
Before r k l = let m = r.source.machine in Searching m.letters r.source.table.now m.states (mask m.initial) (mask m.finals) r.basis.now r.out.now r.size.count k l (mask r.size.pivots) (mask r.size.used)

abbrev pub After : Reduction → ℕ → Type 0
After r most = let m = r.source.machine in Searched m.letters r.source.table.now m.states (mask m.initial) (mask m.finals) r.basis.now r.out.now most r.size.count (mask r.size.pivots) (mask r.size.used)

abbrev pub Product : Reduction → ℕ → ℕ → ℕ → Type 0
Product r k l y = y ≡ product r.source.machine.states (cell width r.basis.now 1 k) (at r.source.table.now l)

pub record Follows (r r' : Reduction) : Type 0 where
  pub source : r'.source ≡ r.source
  pub basis : r'.basis.ghost_name ≡ r.basis.ghost_name
  pub out : r'.out.ghost_name ≡ r.out.ghost_name
  pub more : r.size.count ≤ r'.size.count

pub record Filled (r r' : Reduction) : Type 0 where
  pub source : r'.source ≡ r.source
  pub basis : r'.basis ≡ r.basis
  pub size : r'.size ≡ r.size
  pub out : r'.out.ghost_name ≡ r.out.ghost_name
