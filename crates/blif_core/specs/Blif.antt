-- BLIF as a value of `Format`.
use Rattle.std.specs.Prelude.{true}
use Rattle.net_theory.specs.Circuit.{Circuit, IsProper}
use Rattle.net_theory.specs.Limits.{default_gates}
use Rattle.net_core.specs.Names.{HasRoomForNames}
use Rattle.net_document.specs.Format.{Format}
use Rattle.blif_text.specs.Statements.{listed_of}
use Rattle.blif_core.specs.Written.{written}
use Rattle.blif_core.specs.Spelling.{circuit_text}

-- the parser, the writer's document and the text of a circuit; gates may have any operator, and the limit of gates is the
-- default
abbrev pub blif_format : Format
blif_format = record { listed = listed_of; written = written; text = circuit_text; operators = λ op. true; most = default_gates }

-- Proper circuits can be written. They have fewer than 2^63 names, as every circuit that fits into memory.
abbrev pub CanWriteBlif : Circuit → Type 0
CanWriteBlif c = IsProper c × HasRoomForNames c
