-- The result of reading the name of a subproblem.
use Rattle.std.specs.Prelude.{◌≡◌, ℕ, Bool, true, false, List, Result, Ok, Err}
use Rattle.text_core.specs.Lines.{Line}
use Rattle.enc_theory.specs.declared.subproblem.Subproblem.{Subproblem}
use Rattle.enc_theory.specs.declared.subproblem.Subproblem.TheVariants.{Whole, Levels}
use Rattle.cert_theory.specs.declared.data.SubproblemError.{SubproblemError}
use Rattle.cert_theory.specs.SubproblemLines.{name_in}
use Rattle.cert_theory.specs.Gives.{SubproblemFails}

-- the name of a fence was read, or is at fault
abbrev pub HasName : Bool → List ℕ → Line → Result Bool SubproblemError → Type 0
HasName follows sizes l (Ok is_named) = (is_named ≡ true) × (name_in follows sizes l ≡ Ok tt)
HasName follows sizes l (Err e) = SubproblemFails e (name_in follows sizes l)

-- a whole size has no name
abbrev pub IsFenceNamed : Subproblem → Bool → Line → Result Bool SubproblemError → Type 0
IsFenceNamed Whole follows l result = result ≡ Ok false
IsFenceNamed (Levels sizes) follows l result = HasName follows sizes l result
