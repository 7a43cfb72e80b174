-- `turn`: the bits from b on are exchanged, so none at b = w, and all at b = 0.
use Prim.Native.Nat.{◌^◌}
use Rattle.rows.specs.Table.{row}
use Rattle.transpose.specs.Exchange.{padded, OnlyBlock}
use Rattle.transpose.proofs.TurnLaws.{Turned}
use Rattle.transpose.proofs.turn.Given as goal

abbrev pub invariant-loop-b : goal.invariant-loop-b
invariant-loop-b l = OnlyBlock l.l l.initial.t l.t × Turned (2 ^ l.w) l.b (padded (2 ^ l.w) (row l.initial.t l.l)) (row l.t l.l)
