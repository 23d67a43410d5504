-- Laws about sequencing.
use Rattle.std.proofs.Common.{◌≡◌, Result, Ok, Err, Bool, true, false, cond, ℕ, Option, Some, None, refl, ap, ◌∙◌}
use Rattle.cert_theory.specs.declared.data.CertificateError.{CertificateError}
use Rattle.cert_theory.specs.declared.data.CertificateError.TheVariants.{Syntax, SizeOutOfOrder, StepRefused, NotRefuted, ChainDiffers, OperatorNotInBasis, OpenTooShort, NotNew, WrongVerdict, Memory}
use Rattle.cert_theory.specs.Gives.{◌>>=◌, Fails, SubproblemFails, with_fault}
use Rattle.cert_theory.specs.declared.data.SubproblemError.{SubproblemError}
use Rattle.cert_theory.specs.declared.data.SubproblemError.TheVariants as subproblem_errors
use Rattle.cert_theory.specs.Judging.{or_syntax, fault_at, at_line}

-- where the first fails, both fail
pub fails_bind : {A B : Type 0} (e : CertificateError) (read : Result A CertificateError) (next : A → Result B CertificateError) → Fails e read → Fails e (read >>= next)
fails_bind {A = A} (Syntax line) read next is = ap (λ (r : Result A CertificateError). r >>= next) is
fails_bind {A = A} (SizeOutOfOrder line) read next is = ap (λ (r : Result A CertificateError). r >>= next) is
fails_bind {A = A} (StepRefused line fault) read next is = ap (λ (r : Result A CertificateError). r >>= next) is
fails_bind {A = A} (NotRefuted line) read next is = ap (λ (r : Result A CertificateError). r >>= next) is
fails_bind {A = A} (ChainDiffers output row) read next is = ap (λ (r : Result A CertificateError). r >>= next) is
fails_bind {A = A} (OperatorNotInBasis place) read next is = ap (λ (r : Result A CertificateError). r >>= next) is
fails_bind {A = A} (OpenTooShort line) read next is = ap (λ (r : Result A CertificateError). r >>= next) is
fails_bind {A = A} (NotNew line) read next is = ap (λ (r : Result A CertificateError). r >>= next) is
fails_bind {A = A} (WrongVerdict line) read next is = ap (λ (r : Result A CertificateError). r >>= next) is
fails_bind Memory read next is = tt

-- a failure of a result is one of an equal result
pub fails_is : {A : Type 0} (e : CertificateError) (read answer : Result A CertificateError) → answer ≡ read → Fails e read → Fails e answer
fails_is (Syntax line) read answer same is = same ∙ is
fails_is (SizeOutOfOrder line) read answer same is = same ∙ is
fails_is (StepRefused line fault) read answer same is = same ∙ is
fails_is (NotRefuted line) read answer same is = same ∙ is
fails_is (ChainDiffers output row) read answer same is = same ∙ is
fails_is (OperatorNotInBasis place) read answer same is = same ∙ is
fails_is (OpenTooShort line) read answer same is = same ∙ is
fails_is (NotNew line) read answer same is = same ∙ is
fails_is (WrongVerdict line) read answer same is = same ∙ is
fails_is Memory read answer same is = tt

-- where both succeed, the first does
pub bind_ok : {A B E : Type 0} (read : Result A E) (next : A → Result B E) (y : B) → (read >>= next) ≡ Ok y → (x : A) × (read ≡ Ok x) × (next x ≡ Ok y)
bind_ok (Ok x) next y e = (x, refl, e)
bind_ok (Err d) next y e = absurd cc

pub test_ok : {A E : Type 0} (b : Bool) (read : Result A E) (d : E) (y : A) → cond b read (Err d) ≡ Ok y → (b ≡ true) × (read ≡ Ok y)
test_ok true read d y e = (refl, e)
test_ok false read d y e = absurd cc

pub read_ok : {A : Type 0} (number : ℕ) (o : Option A) (x : A) → or_syntax number o ≡ Ok x → o ≡ Some x
read_ok number None x e = absurd cc
read_ok number (Some y) x e = cc

-- ---- one subproblem

pub subproblem_fails_bind : {A B : Type 0} (e : SubproblemError) (read : Result A SubproblemError) (next : A → Result B SubproblemError) → SubproblemFails e read → SubproblemFails e (read >>= next)
subproblem_fails_bind {A = A} subproblem_errors.Syntax read next is = ap (λ (r : Result A SubproblemError). r >>= next) is
subproblem_fails_bind {A = A} (subproblem_errors.StepRefused fault) read next is = ap (λ (r : Result A SubproblemError). r >>= next) is
subproblem_fails_bind {A = A} subproblem_errors.NotNew read next is = ap (λ (r : Result A SubproblemError). r >>= next) is
subproblem_fails_bind {A = A} subproblem_errors.NotRefuted read next is = ap (λ (r : Result A SubproblemError). r >>= next) is
subproblem_fails_bind {A = A} subproblem_errors.TooShort read next is = ap (λ (r : Result A SubproblemError). r >>= next) is
subproblem_fails_bind {A = A} subproblem_errors.EmptyClauseDerived read next is = ap (λ (r : Result A SubproblemError). r >>= next) is
subproblem_fails_bind subproblem_errors.Memory read next is = tt

pub subproblem_fails_is : {A : Type 0} (e : SubproblemError) (read answer : Result A SubproblemError) → answer ≡ read → SubproblemFails e read → SubproblemFails e answer
subproblem_fails_is subproblem_errors.Syntax read answer same is = same ∙ is
subproblem_fails_is (subproblem_errors.StepRefused fault) read answer same is = same ∙ is
subproblem_fails_is subproblem_errors.NotNew read answer same is = same ∙ is
subproblem_fails_is subproblem_errors.NotRefuted read answer same is = same ∙ is
subproblem_fails_is subproblem_errors.TooShort read answer same is = same ∙ is
subproblem_fails_is subproblem_errors.EmptyClauseDerived read answer same is = same ∙ is
subproblem_fails_is subproblem_errors.Memory read answer same is = tt

-- a fault of a subproblem is a fault of its certificate at that line
pub located_fails : {A : Type 0} (number : ℕ) (e : SubproblemError) (read : Result A SubproblemError) → SubproblemFails e read → Fails (fault_at number e) (at_line number read)
located_fails number subproblem_errors.Syntax read is = ap (at_line number) is
located_fails number (subproblem_errors.StepRefused fault) read is = ap (at_line number) is
located_fails number subproblem_errors.NotNew read is = ap (at_line number) is
located_fails number subproblem_errors.NotRefuted read is = ap (at_line number) is
located_fails number subproblem_errors.TooShort read is = ap (at_line number) is
located_fails number subproblem_errors.EmptyClauseDerived read is = ap (at_line number) is
located_fails number subproblem_errors.Memory read is = tt

pub located_ok : {A E : Type 0} (fault : SubproblemError → E) (read : Result A SubproblemError) (x : A) → with_fault fault read ≡ Ok x → read ≡ Ok x
located_ok fault (Ok y) x e = cc
located_ok fault (Err d) x e = absurd cc
