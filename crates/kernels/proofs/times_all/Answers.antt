-- `times_all`: the line is filled block by block.
use Rattle.std.proofs.Common.{ℕ, arith}
use Rattle.rows.specs.Row.{mask}
use Rattle.rows.specs.Table.{at}
use Rattle.rows.specs.Product.{product}
use Rattle.kernels.proofs.LineLaws.{put_two, put_four, put_eight}
use Rattle.kernels.proofs.times_all.Goals as goal

pub returns-then-a-le2 : goal.returns-then-a-le2
returns-then-a-le2 c = λ n h l g.
    put_two (λ b. product n (mask c.args.x) (at c.args.t.now b)) (λ k f. c.times_each.ensures k n f h) c.put_all.ensures l (omega arith)

pub returns-then-a-gt4 : goal.returns-then-a-gt4
returns-then-a-gt4 c = λ n h l g.
    let f = λ (b : ℕ). product n (mask c.args.x) (at c.args.t.now b) in
    put_eight f (put_four f (λ k p. c.times_each-2.ensures k n p h) c.put_all-2.ensures) (λ k p. c.times_each-then-a-gt4.ensures k n p h) c.put_all-then-a-gt4.ensures l (omega arith)

pub returns-else-a-gt4 : goal.returns-else-a-gt4
returns-else-a-gt4 c = λ n h l g.
    put_four (λ b. product n (mask c.args.x) (at c.args.t.now b)) (λ k p. c.times_each-2.ensures k n p h) c.put_all-2.ensures l (omega arith)
