-- The text of a depth certificate is judged to have its verdict.
use Rattle.std.proofs.Common.{◌≡◌, List, ℕ, ◌+◌, length, Result, Ok, Err, refl, sym, ap, ◌∙◌, subst}
use Rattle.text_core.specs.Lines.{Line, lines_of}
use Rattle.cert_theory.specs.declared.data.CertificateError.{CertificateError}
use Rattle.cert_theory.specs.declared.data.Verdict.{Verdict}
use Rattle.cert_theory.specs.Certificate.{Certificate, IsValid, HasOutput}
use Rattle.cert_theory.specs.Judging.{certificate_of}
use Rattle.cert_theory.specs.Spelling.{certificate_lines, text_of, IsCertificateText}
use Rattle.cert_laws.specs.CertificatesAgain.{lines_again, text_again}
use Rattle.cert_file.specs.ClaimLaws.{one_certificate}
use Rattle.depth_theory.specs.DepthCertificate.{DepthCertificate}
use Rattle.depth_theory.specs.DepthJudging.{Answer, IsJudged, after_least, after_certificate, least_of, prefix_of, suffix_of}
use Rattle.depth_theory.specs.DepthSpelling.{IsDepthText}
use Rattle.depth_theory.specs.DepthAgain.{judged_again, depth_prefix}

pub never_both : {A : Type 0} (v : Verdict) (e : CertificateError) (r : Result Verdict CertificateError) → r ≡ Ok v → r ≡ Err e → A
never_both v e r one two = absurd cc

is_certificate : (b : Certificate) (text : List ℕ) → IsValid b → HasOutput b → text ≡ text_of (certificate_lines b) → IsCertificateText text b
is_certificate b text valid output same = record { valid = valid; output = output; text = same }

pub read_again : (b : Certificate) → IsValid b → HasOutput b → certificate_of (certificate_lines b) ≡ Ok b.verdict
read_again b valid output = ap certificate_of (sym (lines_again b valid)) ∙ text_again (text_of (certificate_lines b)) b (is_certificate b (text_of (certificate_lines b)) valid output refl)

-- the lines after the certificate are judged by themselves
pub same_after : (b c : Certificate) (number : ℕ) (ls : List Line) → IsValid b → HasOutput b → IsValid c →
    HasOutput c → certificate_lines b ≡ certificate_lines c →
    after_certificate b number ls ≡ after_certificate c number ls
same_after b c number ls valid output others has same =
    let claim = one_certificate (text_of (certificate_lines b)) b c
    (is_certificate b (text_of (certificate_lines b)) valid output refl)
    (is_certificate c (text_of (certificate_lines b)) others has (ap text_of same)) in
    λ i. after_least (claim.header i) (least_of (claim.header i).method (claim.verdict i) (claim.chain i)) number ls

own_judged : (bytes : List ℕ) (b : DepthCertificate) → IsDepthText bytes b →
    IsJudged (lines_of bytes) (after_certificate b.certificate (length (prefix_of (lines_of bytes)) + 1)
    (suffix_of (lines_of bytes)))
own_judged bytes b is =
    let lines = lines_of bytes in
    let own = depth_prefix bytes b is in
    let valid = is.is_depth.valid in
    record {
      refused = λ e bad. never_both b.certificate.verdict e (certificate_of (prefix_of lines)) (ap certificate_of own ∙ read_again b.certificate valid is.output) bad;
      following = λ c others has same. same_after b.certificate c (length (prefix_of lines) + 1) (suffix_of lines) valid is.output others has (sym own ∙ same);
    }

pub text_judged : (bytes : List ℕ) (b : DepthCertificate) → IsDepthText bytes b → IsJudged (lines_of bytes) (Ok b.verdict)
text_judged bytes b is =
    let judged = own_judged bytes b is in
    subst (λ (a : Answer). IsJudged (lines_of bytes) a) (judged_again bytes b (after_certificate b.certificate (length (prefix_of (lines_of bytes)) + 1) (suffix_of (lines_of bytes))) is judged) judged
