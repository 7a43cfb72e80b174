-- `part_of_index`: the reader is over the script and stands where the calls made have brought it.
use Rattle.std.proofs.Common.{◌≡◌}
use Rattle.script.specs.Script.{read_to}
use Rattle.script.proofs.part_of_index.Given as goal

abbrev pub invariant-loop-call : goal.invariant-loop-call
invariant-loop-call l = record {
  same : l.reader.bytes.now ≡ l.script;
  reached : l.reader.at ≡ read_to l.script l._call;
}
