-- The result of the search is for the given tables and settings.
use Rattle.std.proofs.Common.{rules, ◌≡◌, ◌<◌, length, subst}
use Rattle.std.proofs.lemmas.Grind.{common_steps}
use Rattle.cert_theory.specs.declared.data.Verdict.{Verdict}
use Rattle.cert_theory.specs.Certificate.{Certificate}
use Rattle.cert_theory.specs.Spelling.{cert_text}
use Rattle.depth_theory.specs.declared.data.DepthVerdict.{DepthVerdict}
use Rattle.depth_theory.specs.DepthCertificate.{DepthCertificate}
use Rattle.depth_theory.specs.DepthSpelling.{depth_text}
use Rattle.depth_core.specs.declared.searching.DepthResult.{DepthResult}
use Rattle.depth_core.specs.Flattened.{IsDepthResult}
use Rattle.synth_core.specs.DepthCertifying.{IsLeast, IsOther}
use Rattle.synth_core.proofs.DepthCertified.{by_fences, least_certified, other_certified}
use Rattle.synth_core.proofs.least_depth.certify_depth.Goals as goal

pub returns-in-Least-clause-certificate : goal.returns-in-Least-clause-certificate
returns-in-Least-clause-certificate g c =
    let b : DepthCertificate = c.in-Least.certificate in
    let text = c.in_ok-text-in-Least.text.items in
    let found = subst (λ (d : DepthResult). IsDepthResult (by_fences c.in_ok-spec.spec c.args.settings.now) d) c.in-Least.is c.in_ok-certificate.ensures in
    let output : 0 < length c.in_ok-spec.spec.on = search (rules, common_steps) in
    let spelled : text ≡ depth_text b = search (rules, common_steps) in
    let same : b.verdict ≡ c.certificate.inside.verdict = search (rules, common_steps) in
    subst (λ (v : DepthVerdict). IsLeast c.args.bytes.now c.args.settings.now text v) same
    (least_certified c.args.bytes.now text c.args.settings.now c.in_ok-spec.spec b c.requires.by_fences c.in_ok-spec.ensures.spelled output found spelled)

pub returns-clause-certificate : goal.returns-clause-certificate
returns-clause-certificate g c =
    let b : Certificate = c.in-Other.certificate in
    let text = c.in_ok-text-in-Other.text.items in
    let found = subst (λ (d : DepthResult). IsDepthResult (by_fences c.in_ok-spec.spec c.args.settings.now) d) c.in-Other.is c.in_ok-certificate.ensures in
    let output : 0 < length c.in_ok-spec.spec.on = search (rules, common_steps) in
    let spelled : text ≡ cert_text b = search (rules, common_steps) in
    let same : b.verdict ≡ c.certificate-in-Other.inside.verdict = search (rules, common_steps) in
    subst (λ (v : Verdict). IsOther c.args.bytes.now c.args.settings.now text v) same
    (other_certified c.args.bytes.now text c.args.settings.now c.in_ok-spec.spec b c.requires.by_fences c.in_ok-spec.ensures.spelled output found spelled)
