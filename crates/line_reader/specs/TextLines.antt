-- The lines that stages are handed, as contracts see them.
use Rattle.text_core.specs.Lines.{Line}
use Rattle.line_reader.specs.declared.line.TextLine.{TextLine}

-- the line, without its number
abbrev pub line_of : TextLine → Line
line_of l = record { text = l.text.now; ended = l.ended }
