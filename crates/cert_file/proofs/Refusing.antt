-- Errors of the chain's grammar.
use Rattle.std.proofs.Common.{◌≡◌, ℕ, Option, Result, Err, sym, ap, subst}
use Rattle.std.proofs.lemmas.Grind.{common_steps}
use Rattle.chain_core.specs.declared.frame.Frame.{Frame}
use Rattle.chain_core.specs.declared.error.ChainError.{ChainError}
use Rattle.chain_core.specs.declared.error.ChainError.TheVariants.{BadStep, ForwardPlace, BadOut, TooManySteps, BadCount, Memory}
use Rattle.chain_core.specs.Block as block
use Rattle.chain_core.specs.Reading as reading
use Rattle.cert_theory.specs.declared.data.Header.{Header}
use Rattle.cert_theory.specs.declared.data.CertificateError.{CertificateError}
use Rattle.cert_theory.specs.Judging.{as_syntax, chain_place, with_block}
use Rattle.cert_theory.specs.Gives.{Fails}
use Rattle.cert_theory.specs.GivesLaws.{fails_bind}
use Rattle.cert_file.specs.Refusals.{IsRefusal}

-- an error of the chain's grammar is a fault of the certificate
pub refusal_fails : {A : Type 0} (error : ChainError) (e : CertificateError) (read : Result A ChainError) → reading.Fails error read → IsRefusal error e → Fails e (as_syntax chain_place read)
refusal_fails {A = A} (BadStep line) e read fails is = subst (λ (d : CertificateError). Fails d (as_syntax chain_place read)) (sym is) (ap (λ (r : Result A ChainError). as_syntax chain_place r) fails)
refusal_fails {A = A} (ForwardPlace line) e read fails is =
    subst (λ (d : CertificateError). Fails d (as_syntax chain_place read)) (sym is)
    (ap (λ (r : Result A ChainError). as_syntax chain_place r) fails)
refusal_fails {A = A} (BadOut line) e read fails is = subst (λ (d : CertificateError). Fails d (as_syntax chain_place read)) (sym is) (ap (λ (r : Result A ChainError). as_syntax chain_place r) fails)
refusal_fails {A = A} (TooManySteps line) e read fails is =
    subst (λ (d : CertificateError). Fails d (as_syntax chain_place read)) (sym is)
    (ap (λ (r : Result A ChainError). as_syntax chain_place r) fails)
refusal_fails {A = A} (BadCount line) e read fails is =
    subst (λ (d : CertificateError). Fails d (as_syntax chain_place read)) (sym is)
    (ap (λ (r : Result A ChainError). as_syntax chain_place r) fails)
refusal_fails Memory e read fails is = subst (λ (d : CertificateError). Fails d (as_syntax chain_place read)) (sym is) tt

-- so it is the result
pub block_fails : (h : Header) (f : Frame) (low : Option ℕ) (read : Result block.Read ChainError) (error : ChainError)
    (e : CertificateError) → reading.Fails error read → IsRefusal error e → Fails e (with_block h f low read)
unfolding with_block
block_fails h f low read error e fails is = fails_bind e (as_syntax chain_place read) _ (refusal_fails error e read fails is)

-- a fault of the first reader is that of the sequence
pub fails_on : {A B : Type 0} (error : ChainError) (read : Result A ChainError) (more : Result B ChainError) →
    ((d : ChainError) → read ≡ Err d → more ≡ Err d) → reading.Fails error read → reading.Fails error more
fails_on (BadStep line) read more on fails = on (BadStep line) fails
fails_on (ForwardPlace line) read more on fails = on (ForwardPlace line) fails
fails_on (BadOut line) read more on fails = on (BadOut line) fails
fails_on (TooManySteps line) read more on fails = on (TooManySteps line) fails
fails_on (BadCount line) read more on fails = on (BadCount line) fails
fails_on Memory read more on fails = tt

pub ruleset refusing = (common_steps, refusal_fails)
