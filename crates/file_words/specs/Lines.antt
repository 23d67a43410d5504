-- The program's line, as contracts see it.
use Rattle.std.specs.Prelude.{map}
use Rattle.std.specs.Option.{option_map}
use Rattle.std.specs.String.{string_bytes}
use Rattle.file_words.specs.declared.line.FileLine.{FileLine}
use Rattle.file_words.specs.Sorting.{Line}

abbrev pub line_value : FileLine → Line
line_value line = record {
  words = map string_bytes line.words.items;
  operands = map string_bytes line.operands.items;
  output = option_map string_bytes line.output;
  certificate = option_map string_bytes line.certificate;
  next = line.next;
}
