-- The results of the parsers of parts of a line, as values of the definitions.
use Rattle.std.specs.Prelude.{ℕ, Bool, List, Option, Some, None}
use Rattle.std.specs.Borrow.{Bor}
use Rattle.net_theory.specs.declared.data.Trigger.{Trigger}
use Rattle.net_theory.specs.Document.{Name}
use Rattle.blif_text.specs.Rows.{CoverRow}
use Rattle.blif_text.specs.Latches.{LatchTail}

abbrev pub row_found : Option (Bor (List ℕ) × Bool) → Option CoverRow
row_found None = None
row_found (Some x) = Some (record { cube = x.0.now; on = x.1 })

abbrev pub control_found : Option (Trigger × Bor (List ℕ)) → Option (Trigger × Name)
control_found None = None
control_found (Some c) = Some (c.0, c.1.now)

abbrev pub tail_found : Option (Option (Trigger × Bor (List ℕ)) × Option ℕ) → Option LatchTail
tail_found None = None
tail_found (Some x) = Some (record { control = control_found x.0; init = x.1 })
