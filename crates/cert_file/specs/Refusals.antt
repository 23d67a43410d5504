-- An error of the chain's grammar as a fault of a certificate.
use Rattle.std.specs.Prelude.{◌≡◌}
use Rattle.chain_core.specs.declared.error.ChainError.{ChainError}
use Rattle.chain_core.specs.declared.error.ChainError.TheVariants as chain_errors
use Rattle.cert_theory.specs.declared.data.CertificateError.{CertificateError}
use Rattle.cert_theory.specs.declared.data.CertificateError.TheVariants.{Syntax, Memory}
use Rattle.cert_theory.specs.Judging.{chain_place}

abbrev pub IsRefusal : ChainError → CertificateError → Type 0
IsRefusal chain_errors.Memory e = e ≡ Memory
IsRefusal error e = e ≡ Syntax (chain_place error)
