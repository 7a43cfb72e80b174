-- `turn`: the bits from b on are exchanged, so none at b = w, and all at b = 0.
use mathlib.Core.Path.{◌≡◌, sym, subst}
use Prim.Native.Nat.{suc, ◌-◌, ◌^◌}
use native.Mathlib.Omega.{arith}
use Rattle.rows.specs.Table.{row}
use Rattle.transpose.specs.Exchange.{padded}
use Rattle.transpose.proofs.BlockLaws.{only_start, only_then}
use Rattle.transpose.proofs.TurnLaws.{Turned, turn_start, turn_step, turn_end}
use Rattle.transpose.proofs.turn.Goals as goal

pub loop-b-init : goal.loop-b-init
loop-b-init c = let a = c.args in (only_start a.l a.t.now c.told-t, turn_start a.l a.w a.t.now c.requires.1 c.requires.2)

pub loop-b-preserved : goal.loop-b-preserved
loop-b-preserved c =
    let a = c.args in
    let v = c.loop-b in
    let A = padded (2 ^ a.w) (row a.t.now a.l) in
    let e : suc (v.b - 1) ≡ v.b = omega arith in (
      only_then a.l a.t.now v.t c.exchange.new.t v.invariant.0 c.exchange.ensures.0,
      turn_step a.l a.w (v.b - 1) A v.t c.exchange.new.t c.requires.1 (omega arith) c.exchange.ensures.1
          (subst (λ b. Turned (2 ^ a.w) b A (row v.t a.l)) (sym e) v.invariant.1),
    )

pub returns : goal.returns
returns c =
    let v = c.loop-b in
    let a = c.args in
    let e : v.b ≡ 0 = omega arith in
    (v.invariant.0, turn_end a.l a.w a.t.now v.t c.requires.1 (rw e at v.invariant.1))
