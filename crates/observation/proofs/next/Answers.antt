-- `next`: either row is one of those left, which are all below d.
use Rattle.rows.proofs.BitLaws.{bit_below}
use Rattle.observation.proofs.next.Goals as goal

pub returns-then-a-lt-MANY : goal.returns-then-a-lt-MANY
returns-then-a-lt-MANY c = let e = c.lowest-first.ensures.1 in (bit_below _ c.requires.1 _ e, e)

pub returns : goal.returns
returns c = let e = c.lowest-first.ensures.1 in (bit_below _ c.requires.1 _ e, e)
