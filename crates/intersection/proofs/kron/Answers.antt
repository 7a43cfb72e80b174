-- `kron`: the product over the bits of x below p.
use mathlib.Core.Path.{sym, ap₂, ◌∙◌}
use mathlib.Core.Bool.{cond}
use Prim.Native.Nat.{◌*◌, ◌<◌}
use native.Mathlib.Omega.{arith}
use lib.Bits.{bit_xor}
use Rattle.rows.specs.Row.{width, mask}
use Rattle.intersection.proofs.KronLaws.{group_start, group_fits, kron_none, kron_step}
use Rattle.intersection.proofs.kron.Goals.{In-loop-p}
use Rattle.intersection.proofs.kron.Goals as goal

-- Where group p starts.
start : (c : In-loop-p) → c.loop-p.p * c.args.m < width
start c = group_start c.args.n c.args.m c.loop-p.p (omega arith) c.requires.1

pub loop-p-init : goal.loop-p-init
loop-p-init c = let a = c.args in c.none-r.ensures ∙ sym (kron_none a.m (mask a.x) (mask a.y))

pub moved-z-requires : goal.moved-z-requires
moved-z-requires c =
    (start c, group_fits c.args.n c.args.m (mask c.args.y) c.loop-p.p c.requires.2 (omega arith) c.requires.1)

pub loop-p-preserved : goal.loop-p-preserved
loop-p-preserved c =
    let v = c.loop-p in
    let a = c.args in
    c.xor-r.ensures
    ∙ ap₂ bit_xor v.invariant (c.when-w.ensures ∙ ap₂ (λ b z. cond b z 0) c.has-b.ensures c.moved-z.ensures)
    ∙ sym (kron_step v.p a.m (mask a.x) (mask a.y))
