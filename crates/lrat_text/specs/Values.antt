-- The program's lines as lines of the definitions.
use Rattle.sat_theory.specs.Line as theory
use Rattle.lrat_text.specs.declared.line.Line.{Line}
use Rattle.lrat_text.specs.declared.line.Line.TheVariants.{Add, Delete}

abbrev pub line_value : Line → theory.Line
line_value (Add id lits hints) = theory.Add id lits.items hints.items
line_value (Delete id ids) = theory.Delete id ids.items
