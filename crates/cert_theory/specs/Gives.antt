-- What a checker's result says, compared with the definition.
use Rattle.std.specs.Prelude.{◌≡◌, Result, Ok, Err}
use Rattle.cert_theory.specs.declared.data.CertificateError.{CertificateError}
use Rattle.cert_theory.specs.declared.data.CertificateError.TheVariants.{Memory}
use Rattle.cert_theory.specs.declared.data.SubproblemError.{SubproblemError}
use Rattle.cert_theory.specs.declared.data.SubproblemError.TheVariants as subproblem_errors

-- sequencing: the first error wins
infixl 10 ◌>>=◌
abbrev pub ◌>>=◌ : {A B E : Type 0} → Result A E → (A → Result B E) → Result B E
(Ok x) >>= f = f x
(Err e) >>= f = Err e

-- Each error is that of the definition, but memory may run out anywhere.
abbrev pub Fails : {Y : Type 0} → CertificateError → Result Y CertificateError → Type 0
Fails Memory read = Unit {0}
Fails e read = read ≡ Err e

-- The result, seen through `view`, is the definition's, unless memory runs out.
abbrev pub Gives : {X Y : Type 0} → (X → Y) → Result X CertificateError → Result Y CertificateError → Type 0
Gives view (Ok x) read = read ≡ Ok (view x)
Gives view (Err e) read = Fails e read

-- the same for one subproblem
abbrev pub SubproblemFails : {Y : Type 0} → SubproblemError → Result Y SubproblemError → Type 0
SubproblemFails subproblem_errors.Memory read = Unit {0}
SubproblemFails e read = read ≡ Err e

-- the result for a subproblem, with its fault as one of the whole text
abbrev pub with_fault : {A E : Type 0} → (SubproblemError → E) → Result A SubproblemError → Result A E
with_fault fault (Ok x) = Ok x
with_fault fault (Err e) = Err (fault e)

abbrev pub GivesSubproblem : {X Y : Type 0} → (X → Y) → Result X SubproblemError → Result Y SubproblemError → Type 0
GivesSubproblem view (Ok x) read = read ≡ Ok (view x)
GivesSubproblem view (Err e) read = SubproblemFails e read
