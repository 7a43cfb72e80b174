-- `put_word`: the digits of the letters passed are stored.
use Rattle.std.proofs.Common.{◌≡◌, ◌+◌, take, map}
use Rattle.std.proofs.lemmas.List.Edits.{sets}
use Rattle.text.specs.Text.{digit}
use Rattle.text.proofs.put_word.Given as goal

abbrev pub invariant-loop-letter : goal.invariant-loop-letter
invariant-loop-letter l = record {
  place : l.end ≡ l.at + l.letter-index;
  stored : l.line ≡ sets l.initial.line l.at (map digit (take l.letter-index l.word));
}
