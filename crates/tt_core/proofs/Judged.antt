-- From the result of the grammar to that of the reader.
use Rattle.std.proofs.Common.{◌≡◌, Result, Ok, Err, IfOk}
use Rattle.tt_core.specs.declared.error.SpecError.{SpecError}
use Rattle.tt_core.specs.Gives.{Gives}

-- a property of the grammar's values holds of a result that is Ok
pub if_given : {X Y : Type 0} (view : X → Y) (P : Y → Type 0) (r : Result X SpecError) (read : Result Y SpecError) → Gives view r read → ((y : Y) → read ≡ Ok y → P y) → IfOk r (λ x. P (view x))
if_given view P (Ok x) read gives each = each (view x) gives
if_given view P (Err e) read gives each = tt

-- where the grammar gives a value, the result is that value, or memory ran out
pub gives_value : {X Y : Type 0} (view : X → Y) (r : Result X SpecError) (read : Result Y SpecError) (y : Y) → Gives view r read → read ≡ Ok y → Gives view r (Ok y)
gives_value view r read y gives e = rw (← e) gives
