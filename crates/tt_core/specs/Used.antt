-- What was read from a text, with the lines after the bytes that were read.
use Rattle.std.specs.Prelude.{ℕ, List}
use Rattle.std.proofs.Common.{drop}
use Rattle.text_core.specs.Lines.{lines_of}
use Rattle.tt_core.specs.declared.reading.Tables.{Tables}
use Rattle.tt_core.specs.Tables.{Read}

abbrev pub read_of : List ℕ → Tables → Read
read_of bytes x = record { words = x.spec; rest = lines_of (drop x.used bytes) }
