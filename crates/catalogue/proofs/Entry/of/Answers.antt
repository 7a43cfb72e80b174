-- `Entry::of`: the entry at its place in the table.
use mathlib.Core.Path.{refl}
use Rattle.record.specs.Bytes.{number, bytes_of, all_bytes}
use Rattle.record.specs.Record.{encode}
use Rattle.catalogue.specs.Entries.{letters_at, entry_of, record_of}
use Rattle.catalogue.proofs.Columns.{tells}
use Rattle.catalogue.proofs.Entry.of.Goals as goal

pub returns : goal.returns
unfolding record_of letters_at entry_of encode all_bytes bytes_of number
returns c = tells _ _ _ _ _ _ _ refl refl refl refl refl c.args.j c.requires
