-- `put_line`: every line has room in the buffer, so it is written, behind the bytes that were there.
use Rattle.std.proofs.Common.{◌≡◌, ℕ, ◌+◌, ◌≤◌, List, length, ap, ◌∙◌, arith}
use Rattle.std.specs.Prelude.{Ok}
use Rattle.std.specs.Result.{result_unwrap_or}
use Rattle.lines.specs.Lines.{longest}
use Rattle.marking.specs.Marking.{line_at, mark_line}
use Rattle.marking_io.proofs.Behind.{granted, behind}
use Rattle.marking_io.proofs.put_line.Goals.{After-unwrap_or-length}
use Rattle.marking_io.proofs.put_line.Goals as goal

module _ (c : After-unwrap_or-length) where
  abbrev line : List ℕ
  line = mark_line c.args.script.now c.args.index

  -- What stands at the position is the record of the index.
  line_is : line_at c.args.script.now c.args.index c.args.at ≡ line
  unfolding mark_line
  line_is = ap (line_at c.args.script.now c.args.index) c.requires.0

  short : length line ≤ longest
  short = rw line_is at c.line_at.ensures.room

  room : c.args.n + length line ≤ length c.args.out.now
  room = omega (arith, short, c.requires.1)

  answer : c.line_at.result ≡ Ok (length line)
  answer = granted c.args.out.now line c.args.n room c.line_at.result (rw line_is at c.line_at.ensures.answer)

  -- How many bytes it wrote.
  count : c.unwrap_or-length.result ≡ length line
  count = c.unwrap_or-length.ensures ∙ ap (λ w. result_unwrap_or w 0) answer

pub overflow_add-result : goal.overflow_add-result
overflow_add-result c =
    let e = count (goal.at.overflow_add-result c).After-unwrap_or-length in
    omega (arith, e, room (goal.at.overflow_add-result c).After-unwrap_or-length, c.well_formed)

pub returns : goal.returns
returns c =
    let l = (goal.at.returns c).After-unwrap_or-length in
    let n = c.args.n in
    let e = count (goal.at.returns c).After-unwrap_or-length in
    let total : n + c.unwrap_or-length.result ≡ n + length (line l) = ap (λ k. n + k) e in
    record {
      count = (total, omega (arith, total, short l));
      bytes = behind c.args.out.now (line l) n (room l) _ _ (rw (line_is l) at c.line_at.ensures.buffer) total;
    }
