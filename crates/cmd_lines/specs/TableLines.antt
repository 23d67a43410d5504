-- The statuses and error lines of faults of tables, and how many bytes of tables are read.
use Rattle.std.specs.Prelude.{ℕ, List, codes}
use Rattle.tt_core.specs.declared.error.SpecError.{SpecError}
use Rattle.tt_core.specs.declared.error.SpecError.TheVariants as tables
use Rattle.frame_core.specs.declared.status.Status.{Status}
use Rattle.frame_core.specs.declared.status.Status.TheVariants.{Malformed, Limit, Memory}
use Rattle.frame_core.specs.Reported.{Field, plain, at, memory}

-- the most bytes of tables, and of an input of `agree`
abbrev pub most_of_tables : ℕ
most_of_tables = 65536

-- Faults of form have the status `Malformed`, and what exceeds a limit has the status `Limit`.
abbrev pub spec_status : SpecError → Status
spec_status (tables.BadHeader line) = Malformed
spec_status (tables.BadRow line) = Malformed
spec_status (tables.WrongLength line) = Malformed
spec_status tables.TooManyInputs = Limit
spec_status tables.TooManyOutputs = Limit
spec_status tables.NoOutput = Malformed
spec_status tables.Memory = Memory

-- the name of an error, and its line if it has one
unfoldable pub named_spec : SpecError → List Field
named_spec (tables.BadHeader line) = at (codes "BadHeader") line
named_spec (tables.BadRow line) = at (codes "BadRow") line
named_spec (tables.WrongLength line) = at (codes "WrongLength") line
named_spec tables.TooManyInputs = plain (codes "TooManyInputs")
named_spec tables.TooManyOutputs = plain (codes "TooManyOutputs")
named_spec tables.NoOutput = plain (codes "NoOutput")
named_spec tables.Memory = memory
