-- `try_lengths`: t has the row of k letters, no word of up to k letters is accepted by just one, and the basis is spanned by the rows before it.
use mathlib.Core.Path.{◌≡◌}
use lib.ListN.{length}
use Rattle.rows.specs.Row.{mask}
use Rattle.unary.specs.Powers.{Trying}
use Rattle.unary.proofs.try_lengths.Given as goal

abbrev pub invariant-loop-k : goal.invariant-loop-k
invariant-loop-k g l = (length l.e ≡ length l.initial.e) × Trying l.first l.second l.w l.k (mask l.t.row) (mask l.t.pivots) l.e
