-- `add_rows`: the sums passed have their row, the others are as they were.
use Rattle.std.proofs.Common.{◌≡◌, length-set, set, ◌∙◌, arith, add-one}
use Rattle.std.specs.Int.Bits.{bit_xor}
use Rattle.automata.proofs.Below.{up_to}
use Rattle.rows.specs.Row.{mask_at}
use Rattle.rows.proofs.MaskLaws.{mask_at_added, mask_at_other}
use Rattle.rows.proofs.add_rows.Goals as goal

pub loop-k-preserved : goal.loop-k-preserved
unfolding mask_at
loop-k-preserved g c =
    let a = c.args in
    let v = c.loop-k in
    let i = v.invariant in
    let x = c.xor.result in (
      length-set v.y v.k x ∙ i.0,
      λ M reads k h. up_to {Q = λ j. mask_at (set v.y v.k x) j ≡ bit_xor (mask_at a.y.now j) (M j a.i)} v.k
          (λ j f. mask_at_other v.y v.k j x (omega arith) ∙ i.1 M reads j f)
          (mask_at_added v.y a.y.now v.k x c.row.result (omega (arith, i.0, c.loop-k-test.true)) (i.2 v.k (omega arith)) (reads.row v.k a.i c.row.result c.loop-k-test.true c.requires.0 c.row.ensures) c.xor.ensures)
          k (rw add-one at h),
      λ k h. mask_at_other v.y v.k k x (omega arith) ∙ i.2 k (omega arith),
    )
