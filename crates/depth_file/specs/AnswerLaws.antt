-- Lines have exactly one answer.
use Rattle.std.proofs.Common.{◌≡◌, List, ◌+◌, length, Result, Ok, Err, refl, sym, ap, ◌∙◌}
use Rattle.text_core.specs.Lines.{Line}
use Rattle.cert_theory.specs.declared.data.CertificateError.{CertificateError}
use Rattle.cert_theory.specs.declared.data.Verdict.{Verdict}
use Rattle.cert_theory.specs.Judging.{certificate_of}
use Rattle.cert_laws.specs.CertificateSpellings.{ReadCertificate, lines_read}
use Rattle.depth_theory.specs.declared.data.DepthError.TheVariants.{Certificate as InCertificate}
use Rattle.depth_theory.specs.DepthJudging.{Answer, IsJudged, after_certificate, prefix_of, suffix_of}
use Rattle.depth_file.specs.JudgedLaws.{never_both, read_again, same_after}

one_error : (e d : CertificateError) (r : Result Verdict CertificateError) → r ≡ Err e → r ≡ Err d → e ≡ d
one_error e d r one two = cc

answer_for : (ls : List Line) (r : Result Verdict CertificateError) → certificate_of (prefix_of ls) ≡ r → (answer : Answer) × IsJudged ls answer
answer_for ls (Err e) is = (
  Err (InCertificate e),
  record {
    refused = λ d bad. ap (λ (x : CertificateError). Err (InCertificate x)) (one_error e d (certificate_of (prefix_of ls)) is bad);
    following = λ c valid output same. never_both c.verdict e (certificate_of (prefix_of ls)) (ap certificate_of same ∙ read_again c valid output) is;
  },
)
answer_for ls (Ok v) is =
    let read : ReadCertificate (prefix_of ls) v = lines_read (prefix_of ls) v is in
    let number = length (prefix_of ls) + 1 in (
      after_certificate read.certificate number (suffix_of ls),
      record {
        refused = λ e bad. never_both v e (certificate_of (prefix_of ls)) is bad;
        following = λ c valid output same. same_after read.certificate c number (suffix_of ls) read.valid read.output valid output (sym read.lines ∙ same);
      },
    )

-- Every list of lines has an answer,
pub some_answer : (ls : List Line) → (answer : Answer) × IsJudged ls answer
some_answer ls = answer_for ls (certificate_of (prefix_of ls)) refl

same_answer : (ls : List Line) (a b : Answer) (r : Result Verdict CertificateError) → certificate_of (prefix_of ls) ≡ r → IsJudged ls a → IsJudged ls b → a ≡ b
same_answer ls a b (Err e) is one two = one.refused e is ∙ sym (two.refused e is)
same_answer ls a b (Ok v) is one two =
    let read : ReadCertificate (prefix_of ls) v = lines_read (prefix_of ls) v is in
    one.following read.certificate read.valid read.output read.lines ∙ sym (two.following read.certificate read.valid read.output read.lines)

-- and no other.
pub one_answer : (ls : List Line) (a b : Answer) → IsJudged ls a → IsJudged ls b → a ≡ b
one_answer ls a b one two = same_answer ls a b (certificate_of (prefix_of ls)) refl one two
