-- The result of a search for the fewest levels, as a certificate.
use Rattle.std.proofs.Common.{◌≡◌, ℕ, ◌<◌, List, [], length, All, refl, sym, ap, ◌∙◌, subst, arith}
use Rattle.std.proofs.lemmas.Grind.{common_steps}
use Rattle.text_core.specs.Lines.{lines_of}
use Rattle.tt_core.specs.Words.{Words, specification}
use Rattle.tt_core.specs.Spelling.{SpellsTables}
use Rattle.settings.specs.declared.methods.MethodChoice.{MethodChoice}
use Rattle.settings.specs.declared.methods.MethodChoice.TheVariants.{Named}
use Rattle.settings.specs.Methods.{method_for}
use Rattle.settings.specs.declared.methods.Method.TheVariants.{Fence}
use Rattle.settings.specs.declared.synth.SynthSettings.{SynthSettings}
use Rattle.settings.specs.Synth.{IsInRange}
use Rattle.cert_theory.specs.declared.data.Header.{Header}
use Rattle.cert_theory.specs.Certificate.{Certificate}
use Rattle.cert_theory.specs.Spelling.{cert_text}
use Rattle.cert_theory.specs.LiveBounds.{HasLiveBounds, HaveLiveBounds}
use Rattle.synth_core.specs.SettingsHeader.{header_of}
use Rattle.synth_core.specs.UsedInputs.{used_inputs}
use Rattle.depth_theory.specs.DepthCertificate.{DepthCertificate}
use Rattle.depth_theory.specs.DepthSpelling.{depth_text}
use Rattle.depth_core.specs.Flattened as found
use Rattle.synth_core.specs.DepthCertifying.{IsLeast, IsOther}

-- the header of a certificate by fences
abbrev pub by_fences : Words → SynthSettings → Header
by_fences w settings = record { spec = w; basis = settings.basis; method = Fence; conflicts = settings.conflicts; max = settings.max }

pub settings_range : (settings : SynthSettings) → IsInRange settings →
    IsInRange (record { basis = settings.basis; method = Named Fence; max = settings.max; conflicts = settings.conflicts; effort = 0 })
settings_range settings range = record { basis_from = range.basis_from; max_to = range.max_to; conflicts_from = range.conflicts_from; conflicts_to = range.conflicts_to; effort_to = omega arith }

header_same : (w : Words) (settings : SynthSettings) → settings.method ≡ Named Fence → by_fences w settings ≡ header_of w settings
header_same w settings is =
    ap (λ (m : MethodChoice). record { spec = w; basis = settings.basis; method = method_for m (used_inputs (specification w)) (length w.on); conflicts = settings.conflicts; max = settings.max }) (sym is)

own_header : (h : Header) (w : Words) (settings : SynthSettings) → settings.method ≡ Named Fence → h ≡ by_fences w settings → h ≡ header_of h.spec settings
own_header h w settings fences is =
    is ∙ header_same w settings fences ∙ ap (λ (x : Words). header_of x settings) (sym (ap (λ (k : Header). k.spec) is))

-- the tables have an output, and so has the certificate
pub has_output : (h : Header) (w : Words) (settings : SynthSettings) → h ≡ by_fences w settings → 0 < length w.on → 0 < length h.spec.on
has_output h w settings is output = subst (λ (k : Header). 0 < length k.spec.on) (sym is) output

own_tables : (h : Header) (w : Words) (settings : SynthSettings) (bytes : List ℕ) → h ≡ by_fences w settings →
    SpellsTables (specification w) (lines_of bytes) [] → SpellsTables (specification h.spec) (lines_of bytes) []
own_tables h w settings bytes is tables = subst (λ (k : Header). SpellsTables (specification k.spec) (lines_of bytes) []) (sym is) tables

pub least_certified : (bytes text : List ℕ) (settings : SynthSettings) (w : Words) (b : DepthCertificate) →
    settings.method ≡ Named Fence → SpellsTables (specification w) (lines_of bytes) [] → 0 < length w.on →
    found.IsLeast (by_fences w settings) b → text ≡ depth_text b → IsLeast bytes settings text b.verdict
least_certified bytes text settings w b fences tables output is spelled = record {
  certificate = b;
  is_text = record { is_depth = is.is_depth; output = has_output b.certificate.header w settings is.header output; text = spelled };
  verdict_is = refl;
  header_is = own_header b.certificate.header w settings fences is.header;
  tables = own_tables b.certificate.header w settings bytes is.header tables;
  live_bounds = subst (λ (h : Header). HaveLiveBounds h b.certificate.sections) (sym is.header) is.live_bounds;
  subproblems_live_bounds = subst (λ (h : Header). All (HasLiveBounds h (length b.certificate.sections)) b.subproblems) (sym is.header) is.subproblems_live_bounds;
}

pub other_certified : (bytes text : List ℕ) (settings : SynthSettings) (w : Words) (b : Certificate) →
    settings.method ≡ Named Fence → SpellsTables (specification w) (lines_of bytes) [] → 0 < length w.on →
    found.IsOther (by_fences w settings) b → text ≡ cert_text b → IsOther bytes settings text b.verdict
other_certified bytes text settings w b fences tables output is spelled = record {
  certificate = record {
    certificate = b;
    is_certificate = record { valid = is.valid; output = has_output b.header w settings is.header output; text = spelled };
    verdict_is = refl;
    header_is = own_header b.header w settings fences is.header;
    tables = own_tables b.header w settings bytes is.header tables;
    live_bounds = subst (λ (h : Header). HaveLiveBounds h b.sections) (sym is.header) is.live_bounds;
  };
  no_minimum = is.no_minimum;
}

pub ruleset certifying = (common_steps, settings_range, has_output)
