-- The words that were read, or those that they were rebuilt as.
use Rattle.std.specs.Prelude.{ℕ, List, Option, Some, None, Vec, String}
use Rattle.std.specs.Global.{Global}
use Rattle.command_line.specs.CommandLine.{spelled}

abbrev pub words_of : List (List ℕ) → Option (Vec (String Global) Global) → List (List ℕ)
words_of words None = words
words_of words (Some others) = spelled others
