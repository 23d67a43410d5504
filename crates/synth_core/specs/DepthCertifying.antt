-- Texts that certify the fewest steps and levels for tables.
use Rattle.std.specs.Prelude.{◌≡◌, ℕ, List, [], length, All, None}
use Rattle.text_core.specs.Lines.{lines_of}
use Rattle.tt_core.specs.Words.{specification}
use Rattle.tt_core.specs.Spelling.{SpellsTables}
use Rattle.settings.specs.declared.synth.SynthSettings.{SynthSettings}
use Rattle.cert_theory.specs.declared.data.Verdict.{Verdict}
use Rattle.cert_theory.specs.LiveBounds.{HasLiveBounds, HaveLiveBounds}
use Rattle.synth_core.specs.SettingsHeader.{header_of}
use Rattle.synth_core.specs.Certifying as sizes
use Rattle.depth_theory.specs.declared.data.DepthVerdict.{DepthVerdict}
use Rattle.depth_theory.specs.DepthCertificate.{DepthCertificate}
use Rattle.depth_theory.specs.DepthSpelling.{IsDepthText}
use Rattle.depth_core.specs.Flattened.{minimum_of}
use Rattle.synth_core.specs.declared.least_depth.DepthFound.{DepthFound}
use Rattle.synth_core.specs.declared.least_depth.DepthFound.TheVariants.{Least, Other}

-- The text is a depth certificate with this verdict, for the tables that the bytes spell, with nothing after them,
-- under the settings `settings`. In its logs, also those of fences with fewer levels, at least half of the additions
-- of an open one stay live, and each deletes at least about a quarter of its additions.
pub record IsLeast (bytes : List ℕ) (settings : SynthSettings) (text : List ℕ) (verdict : DepthVerdict) : Type 0 where
  pub certificate : DepthCertificate
  pub is_text : IsDepthText text certificate
  pub verdict_is : certificate.verdict ≡ verdict
  pub header_is : certificate.certificate.header ≡ header_of certificate.certificate.header.spec settings
  pub tables : SpellsTables (specification certificate.certificate.header.spec) (lines_of bytes) []
  pub live_bounds : HaveLiveBounds certificate.certificate.header certificate.certificate.sections
  pub subproblems_live_bounds : All (HasLiveBounds certificate.certificate.header
      (length certificate.certificate.sections)) certificate.subproblems

-- The text is a certificate of the search for the fewest steps, whose verdict isn't a minimum.
pub record IsOther (bytes : List ℕ) (settings : SynthSettings) (text : List ℕ) (verdict : Verdict) : Type 0 where
  pub certificate : sizes.IsCertificate bytes settings text verdict
  pub no_minimum : minimum_of verdict ≡ None

abbrev pub IsCertificate : List ℕ → SynthSettings → List ℕ → DepthFound → Type 0
IsCertificate bytes settings text (Least verdict) = IsLeast bytes settings text verdict
IsCertificate bytes settings text (Other verdict) = IsOther bytes settings text verdict
