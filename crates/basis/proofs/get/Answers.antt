-- `get` reads the number that stands for the row.
use Prim.Native.Nat.{◌+◌, ◌*◌, ◌<◌}
use native.Mathlib.Omega.{arith}
use lib.ListN.{length}
use Rattle.basis.proofs.BasisLaws.{inside}
use Rattle.basis.proofs.get.Goals.{Start}
use Rattle.basis.proofs.get.Goals as goal

-- The row has its place.
place : (s : Start) → s.args.l * s.args.stride + s.args.i < length s.args.b.now
place s = let a = s.args in inside a.stride a.l a.i a.b.now s.requires.0 s.requires.1 s.requires.2

pub overflow_mul-result : goal.overflow_mul-result
overflow_mul-result c = record { fits = omega (arith, place c) }

pub overflow_add-result : goal.overflow_add-result
overflow_add-result c = record { fits = omega (arith, place c) }

pub offset_bounds-b-l : goal.offset_bounds-b-l
offset_bounds-b-l c = record { fits = omega (arith, place c) }

pub bounds-b-l : goal.bounds-b-l
bounds-b-l c = place (goal.at.bounds-b-l c).Start
