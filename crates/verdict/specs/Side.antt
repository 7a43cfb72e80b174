-- The side of two records that accepts a word which just one accepts.
use Rattle.std.specs.Prelude.{Bool, true, false}
use Rattle.verdict.specs.declared.Side.{Side}
use Rattle.verdict.specs.declared.Side.TheVariants.{First, Second}

-- Whether the first accepts it, as a side.
abbrev pub side_of : Bool → Side
side_of true = First
side_of false = Second
