-- A reader of the program returns the result of the grammar.
use Rattle.std.specs.Prelude.{◌≡◌, Result, Ok, Err}
use Rattle.chain_core.specs.declared.error.ChainError.{ChainError}
use Rattle.chain_core.specs.declared.error.ChainError.TheVariants.{Memory}

-- an error is that of the grammar, with its line, or memory ran out, which may happen anywhere
abbrev pub Fails : {Y : Type 0} → ChainError → Result Y ChainError → Type 0
Fails Memory read = Unit {0}
Fails e read = read ≡ Err e

-- what a function returned, under `view`, is the result of the grammar, unless memory ran out
abbrev pub Gives : {X Y : Type 0} → (X → Y) → Result X ChainError → Result Y ChainError → Type 0
Gives view (Ok x) read = read ≡ Ok (view x)
Gives view (Err e) read = Fails e read
