-- The answers of a judge of depth certificates, compared with the definition.
use Rattle.std.specs.Prelude.{◌≡◌, Result, Ok, Err}
use Rattle.depth_theory.specs.declared.data.DepthError.{DepthError}
use Rattle.depth_theory.specs.declared.data.DepthError.TheVariants.{Memory}

-- Each refusal is that of the definition. Running out of memory is always allowed.
abbrev pub Fails : {Y : Type 0} → DepthError → Result Y DepthError → Type 0
Fails Memory read = Unit {0}
Fails e read = read ≡ Err e

-- The answer is that of the definition, unless memory runs out.
abbrev pub Gives : {X Y : Type 0} → (X → Y) → Result X DepthError → Result Y DepthError → Type 0
Gives view (Ok x) read = read ≡ Ok (view x)
Gives view (Err e) read = Fails e read
