-- The lines of a depth certificate up to the first line `end`, as far as they were read.
use Rattle.std.specs.Prelude.{◌≡◌, ℕ, ◌+◌, List, ◌++◌, length, Err}
use Rattle.text_core.specs.Lines.{Line, lines_of}
use Rattle.cert_theory.specs.declared.data.CertificateError.{CertificateError}
use Rattle.cert_theory.specs.declared.data.CertificateError.TheVariants as certificate_errors
use Rattle.cert_theory.specs.Certificate.{Certificate, IsValid, HasOutput}
use Rattle.cert_theory.specs.Judging.{certificate_of}
use Rattle.cert_theory.specs.Spelling.{certificate_lines, text_of}
use Rattle.cert_file.specs.Reader.{CertificatePieces, seen, StandsFor}
use Rattle.depth_theory.specs.declared.data.DepthError.{DepthError}
use Rattle.depth_theory.specs.declared.data.DepthError.TheVariants.{Certificate as InCertificate, Memory}
use Rattle.depth_theory.specs.DepthJudging.{Answer, after_certificate, prefix_of, suffix_of}

-- a fault of the certificate at the head, as one of the whole text
abbrev pub as_whole : CertificateError → DepthError
as_whole certificate_errors.Memory = Memory
as_whole e = InCertificate e

-- An answer for lines: the fault of those up to the first line `end`; or, if these are a certificate, the answer
-- for the lines after it.
pub data IsAnswer (lines : List Line) : Answer → Type 0 where
  InPrefix : (e : CertificateError) → certificate_of (prefix_of lines) ≡ Err e → IsAnswer lines (Err (InCertificate e))
  After : (b : Certificate) → IsValid b → HasOutput b → prefix_of lines ≡ certificate_lines b → IsAnswer lines (after_certificate b (length (prefix_of lines) + 1) (suffix_of lines))

-- Within the certificate at the head: its reader has read the lines so far, none of which is `end`.
pub record IsInPrefix (reader : CertificatePieces) (number : ℕ) (lines : List Line) (answer : Answer) : Type 0 where
  pub whole : List Line
  pub read : List Line
  pub prefix_is : prefix_of whole ≡ read ++ prefix_of lines
  pub suffix_is : suffix_of whole ≡ suffix_of lines
  pub again : lines_of (text_of (prefix_of whole)) ≡ prefix_of whole
  pub number_is : number ≡ length read + 1
  pub stands : StandsFor (seen reader) (text_of read)
  pub answered : IsAnswer whole answer

-- After the first line `end`: the reader has read all lines up to it.
pub record IsAfter (reader : CertificatePieces) (number : ℕ) (lines : List Line) (answer : Answer) : Type 0 where
  pub whole : List Line
  pub suffix_is : suffix_of whole ≡ lines
  pub again : lines_of (text_of (prefix_of whole)) ≡ prefix_of whole
  pub number_is : number ≡ length (prefix_of whole) + 1
  pub stands : StandsFor (seen reader) (text_of (prefix_of whole))
  pub answered : IsAnswer whole answer
