-- What is known of a certificate that was read, and of a part that was found in it.
use Rattle.std.specs.Prelude.{◌≡◌, ℕ, List, Option, Some}
use Rattle.sat_theory.specs.Formula.{Formula}
use Rattle.cert_theory.specs.Certificate.{Certificate}
use Rattle.cert_theory.specs.Spelling.{IsCertificateText}
use Rattle.cert_file.specs.Claims.{IsClaim}
use Rattle.cert_file.specs.declared.claim.Claim.{Claim}
use Rattle.cmd_formula.specs.Parts.{count_of, size_in, formula_at}

-- the bytes are the text of a valid certificate, and this is what it claims
pub record IsClaimed (bytes : List ℕ) (t : Claim) : Type 0 where
  pub certificate : Certificate
  pub is_certificate : IsCertificateText bytes certificate
  pub is_claim : IsClaim certificate t

-- and the part that is asked for is this one
pub record IsFound (size : Option ℕ) (part : ℕ) (bytes : List ℕ) (at : ℕ) (f : Formula) : Type 0 where
  pub claim : Claim
  pub claimed : IsClaimed bytes claim
  pub size_is : size_in (count_of claim.header claim.chain) size ≡ Some at
  pub formula_is : formula_at claim.header part at ≡ Some f
