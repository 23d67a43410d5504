-- Texts that certify the fewest steps for tables.
use Rattle.std.specs.Prelude.{◌≡◌, ℕ, List, []}
use Rattle.text_core.specs.Lines.{lines_of}
use Rattle.tt_core.specs.Words.{specification}
use Rattle.tt_core.specs.Spelling.{SpellsTables}
use Rattle.cert_theory.specs.declared.data.Verdict.{Verdict}
use Rattle.cert_theory.specs.Certificate.{Certificate}
use Rattle.cert_theory.specs.Spelling.{IsCertificateText}
use Rattle.cert_theory.specs.LiveBounds.{HaveLiveBounds}
use Rattle.settings.specs.declared.synth.SynthSettings.{SynthSettings}
use Rattle.synth_core.specs.SettingsHeader.{header_of}

-- The text is a valid certificate with this verdict, for the tables that the bytes spell, with nothing after them,
-- under the settings `settings`. In its logs at least half of the additions of an open one stay live, and each
-- deletes at least about a quarter of its additions.
pub record IsCertificate (bytes : List ℕ) (settings : SynthSettings) (text : List ℕ) (verdict : Verdict) : Type 0 where
  pub certificate : Certificate
  pub is_certificate : IsCertificateText text certificate
  pub verdict_is : certificate.verdict ≡ verdict
  pub header_is : certificate.header ≡ header_of certificate.header.spec settings
  pub tables : SpellsTables (specification certificate.header.spec) (lines_of bytes) []
  pub live_bounds : HaveLiveBounds certificate.header certificate.sections
