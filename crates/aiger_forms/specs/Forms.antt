-- AIGER in either form as a value of `Format`.
use Rattle.net_document.specs.Format.{Format}
use Rattle.aiger_core.specs.Aiger.{aiger_format}
use Rattle.aiger_sections.specs.Plain.{plain_in}

-- A text lists what its plain text lists: the ASCII text of the same file, in which bad states and constraints are further
-- outputs. A circuit is written in the ASCII form, without bad states and constraints.
abbrev pub aiger_forms : Format
aiger_forms = record aiger_format { listed = λ bytes. aiger_format.listed (plain_in bytes) }
