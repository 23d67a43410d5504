-- The program's words, as contracts see them.
use Rattle.std.specs.Option.{option_map}
use Rattle.std.specs.String.{string_bytes}
use Rattle.cmd_formula.specs.declared.words.FormulaWords.{FormulaWords}
use Rattle.cmd_formula.specs.Words.{Asked}

abbrev pub asked_value : FormulaWords → Asked
asked_value w = record { size = w.size; part = w.part; log = option_map string_bytes w.log; good = w.good }
