-- `check_pair`: a pair is given just where the checks pass.
use Rattle.operands.proofs.PairLaws.{pair_good}
use Rattle.operands.proofs.check_pair.Goals as goal

pub returns : goal.returns
returns c =
    let e = c.in_ok-check_pair.ensures in
    pair_good _ _ c.in_ok-check_pair.field-0 e.0 e.1
