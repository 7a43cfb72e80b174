-- `level`: the power of two next to n has no higher bit than the width has, and is 2 ^ w.
use Prim.Native.Nat.{ℕ, suc, ◌*◌, ◌^◌, ◌<◌, ◌≤◌}
use native.Mathlib.Nat.{lt_of_not-le, pow-suc}
use native.Mathlib.Omega.{arith}
use lib.Pow.{pow_mono}
use Rattle.rows.specs.Row.{levels}
use Rattle.transpose.proofs.level.Goals as goal

-- Powers of two are ordered as their exponents are.
ordered : (i j : ℕ) → 2 ^ i < 2 * 2 ^ j → i ≤ j
ordered i j h =
    let below : i < suc j = lt_of_not-le (λ g. omega (arith, pow_mono {i = suc j} {j = i} g, pow-suc 2 j)) in
    omega arith

pub returns : goal.returns
returns c =
    let p = c.next_power_of_two.ensures in
    let w = c.ilog2 in
    let k = p.power.0 in
    let least : k ≤ w.result = ordered k w.result (omega (arith, p.power.1)) in (
      ordered w.result levels (omega arith),
      omega (arith, p.power.1, pow_mono least),
    )
