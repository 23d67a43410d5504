-- The words, as contracts see them.
use Rattle.std.specs.Prelude.{map}
use Rattle.std.specs.String.{string_bytes}
use Rattle.front_large.specs.declared.words.LargeWords.{LargeWords}
use Rattle.front_large.specs.LargeWords.{Given}

abbrev pub given_value : LargeWords → Given
given_value w = record { words = map string_bytes w.words.items; size = w.size; part = w.part; most = w.most; good = w.good }
