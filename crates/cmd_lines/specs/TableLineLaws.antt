-- Lemmas on the statuses of faults of tables.
use Rattle.std.specs.Prelude.{◌≡◌}
use Rattle.tt_core.specs.declared.error.SpecError.{SpecError}
use Rattle.tt_core.specs.declared.error.SpecError.TheVariants as tables
use Rattle.frame_core.specs.declared.status.Status.TheVariants.{Refused}
use Rattle.cmd_lines.specs.TableLines.{spec_status}

pub not_refused : (e : SpecError) → spec_status e ≡ Refused → ⊥
not_refused (tables.BadHeader line) is = cc
not_refused (tables.BadRow line) is = cc
not_refused (tables.WrongLength line) is = cc
not_refused tables.TooManyInputs is = cc
not_refused tables.TooManyOutputs is = cc
not_refused tables.NoOutput is = cc
not_refused tables.Memory is = cc
