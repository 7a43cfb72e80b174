-- Beside a record over two letters a blank stands for catalogue 0, byte for byte.
use mathlib.Core.Path.{◌≡◌, refl}
use mathlib.Core.List.{[]}
use Rattle.record.specs.Record.{encode}
use Rattle.operands.specs.Meant.{meant_over}
use Rattle.catalogue.specs.Entries.{entry_of, letters_at, record_of}

pub blank_catalogue : meant_over 2 [] ≡ record_of 0
unfolding record_of entry_of letters_at encode
blank_catalogue = refl
