-- What a certificate guarantees: its verdict is true, and `recheck` reports the same verdict.
use Rattle.std.specs.Prelude.{◌≡◌, ℕ, ◌≤◌, List, [], length, Result, Ok}
use Rattle.std.proofs.Common.{ap, subst}
use Rattle.text_core.specs.Lines.{lines_of}
use Rattle.tt_core.specs.Words.{Words, IsSpec, specification}
use Rattle.tt_core.specs.Spelling.{SpellsTables}
use Rattle.tt_core.specs.declared.error.SpecError.{SpecError}
use Rattle.tt_core.specs.ReadBack.{tables_again}
use Rattle.op_basis.specs.Basis.{members}
use Rattle.cert_theory.specs.declared.data.Header.{Header}
use Rattle.cert_theory.specs.declared.data.Verdict.{Verdict}
use Rattle.cert_theory.specs.Certificate.{Certificate}
use Rattle.cert_laws.specs.CodingLaws.{method_is_coding}
use Rattle.cert_theory.specs.Meaning.{Means}
use Rattle.cert_theory.specs.Spelling.{IsCertificateText}
use Rattle.cert_theory.specs.Judging.{certificate_of}
use Rattle.cert_laws.specs.CertificatesAgain.{text_again}
use Rattle.cert_laws.specs.Meanings.{verdict_means}
use Rattle.settings.specs.declared.synth.SynthSettings.{SynthSettings}
use Rattle.synth_core.specs.Certifying.{IsCertificate}
use Rattle.synth_core.specs.Tables.{words_alone, tables_alone}
use Rattle.depth_theory.specs.Verdicts.{most_of_certificate, GivesVerdict}
use Rattle.cmd_lines.specs.TableLines.{most_of_tables}
use Rattle.cmd_synth.specs.SynthReport.{Certified, IsCertified}
use Rattle.depth_theory.specs.VerdictLaws.{is_verdict}

-- the verdict of a valid certificate is true
certificate_means : (b : Certificate) (bytes : List ℕ) → IsCertificateText bytes b → Means (specification b.header.spec) (members b.header.basis) b.verdict
certificate_means b bytes is = verdict_means b (method_is_coding b.header.method) is.valid

means_as : (w x : Words) (a b : ℕ) (u v : Verdict) → w ≡ x → a ≡ b → u ≡ v → Means (specification w) (members a) u → Means (specification x) (members b) v
means_as w x a b u v same_words same_basis same_verdict means =
    subst (λ (y : Verdict). Means (specification x) (members b) y) same_verdict
    (subst (λ (n : ℕ). Means (specification x) (members n) u) same_basis
    (subst (λ (y : Words). Means (specification y) (members a) u) same_words means))

same_tables : (read : Result Words SpecError) (a b : Words) → read ≡ Ok a → read ≡ Ok b → a ≡ b
same_tables read a b is other = cc

-- bytes are the spelling of at most one specification
pub tables_are : (a b : Words) (bytes : List ℕ) → IsSpec a → IsSpec b → SpellsTables (specification a) (lines_of bytes) [] → SpellsTables (specification b) (lines_of bytes) [] → a ≡ b
tables_are a b bytes spec other spelled again =
    same_tables (tables_alone (lines_of bytes)) a b (ap words_alone (tables_again a (lines_of bytes) [] spec spelled)) (ap words_alone (tables_again b (lines_of bytes) [] other again))

pub its_meaning : (settings : SynthSettings) (bytes text : List ℕ) (verdict : Verdict) →
    IsCertificate bytes settings text verdict → (w : Words) → IsSpec w →
    SpellsTables (specification w) (lines_of bytes) [] → Means (specification w) (members settings.basis) verdict
its_meaning settings bytes text verdict c w spec spelled =
    means_as c.certificate.header.spec w c.certificate.header.basis settings.basis c.certificate.verdict verdict
    (tables_are c.certificate.header.spec w bytes c.is_certificate.valid.header.tables spec c.tables spelled)
    (ap (λ (h : Header). h.basis) c.header_is)
    c.verdict_is
    (certificate_means c.certificate text c.is_certificate)

judged_as : (text : List ℕ) (b : Certificate) (verdict : Verdict) → IsCertificateText text b → b.verdict ≡ verdict → certificate_of (lines_of text) ≡ Ok verdict
judged_as text b verdict is same = subst (λ (v : Verdict). certificate_of (lines_of text) ≡ Ok v) same (text_again text b is)

pub its_verdict : (settings : SynthSettings) (bytes text : List ℕ) (verdict : Verdict) → IsCertificate bytes settings text verdict → certificate_of (lines_of text) ≡ Ok verdict
its_verdict settings bytes text verdict c = judged_as text c.certificate verdict c.is_certificate c.verdict_is

pub its_recheck : (settings : SynthSettings) (bytes text : List ℕ) (verdict : Verdict) → IsCertificate bytes settings text verdict → length text ≤ most_of_certificate → GivesVerdict text verdict
its_recheck settings bytes text verdict c within = record {
  within = within;
  read = its_verdict settings bytes text verdict c;
  is_verdict = is_verdict text verdict (its_verdict settings bytes text verdict c);
}

-- Everything that a certificate guarantees.
pub certified : (settings : SynthSettings) (bytes : List ℕ) (c : Certified) → length bytes ≤ most_of_tables → IsCertificate bytes settings c.text c.verdict → IsCertified settings bytes c
certified settings bytes c within certificate = record {
  within = within;
  certificate = certificate;
  means = λ w tables. its_meaning settings bytes c.text c.verdict certificate w tables.are tables.spelled;
  judged = its_verdict settings bytes c.text c.verdict certificate;
  rechecked = its_recheck settings bytes c.text c.verdict certificate;
}
