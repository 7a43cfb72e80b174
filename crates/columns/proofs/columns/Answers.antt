-- `columns`: the basis rows laid and cleared behind are transposed.
use native.Mathlib.Omega.{arith}
use Rattle.rows.specs.Row.{mask}
use Rattle.columns.proofs.LayLaws.{laid_le, laid_low, laid_columns}
use Rattle.columns.proofs.columns.Goals as goal

pub clear-requires : goal.clear-requires
clear-requires c =
    let l = c.lay-r in
    let a = c.args in
    (omega arith, omega (arith, laid_le a.n (mask a.p) l.result a.b.now l.new.c l.ensures), c.requires.0)

pub transpose-requires : goal.transpose-requires
transpose-requires c =
    let d = c.clear in
    let l = c.lay-r in
    let a = c.args in
    (omega arith, c.requires.0, laid_low a.n (mask a.p) l.result a.b.now l.new.c d.new.t l.ensures d.ensures.1 c.requires.1)

pub returns : goal.returns
returns c =
    let t = c.transpose in
    let d = c.clear in
    let l = c.lay-r in
    let a = c.args in
    (l.ensures.count, laid_columns a.n (mask a.p) l.result a.b.now l.new.c d.new.t l.ensures d.ensures.1 t.new.t t.ensures, t.ensures.size)
