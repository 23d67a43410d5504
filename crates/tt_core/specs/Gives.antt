-- A reader returns the result of the grammar.
use Rattle.std.specs.Prelude.{◌≡◌, Result, Ok, Err}
use Rattle.tt_core.specs.declared.error.SpecError.{SpecError}
use Rattle.tt_core.specs.declared.error.SpecError.TheVariants.{Memory}

-- an error is that of the grammar, or memory ran out, which may happen anywhere
abbrev pub Fails : {Y : Type 0} → SpecError → Result Y SpecError → Type 0
Fails Memory read = Unit {0}
Fails e read = read ≡ Err e

-- what a function returned, under `view`, is the result of the grammar, unless memory ran out
abbrev pub Gives : {X Y : Type 0} → (X → Y) → Result X SpecError → Result Y SpecError → Type 0
Gives view (Ok x) read = read ≡ Ok (view x)
Gives view (Err e) read = Fails e read
