-- The result of `synth --least-depth yes` for an input.
use Rattle.std.specs.Prelude.{◌≡◌, ℕ, ◌≤◌, List, length, Ok}
use Rattle.std.proofs.Common.{sym, subst, refl}
use Rattle.std.proofs.lemmas.Grind.{common_steps}
use Rattle.text_core.specs.Lines.{lines_of}
use Rattle.tt_core.specs.Words.{Words, specification}
use Rattle.tt_core.specs.Gives.{Fails}
use Rattle.tt_core.specs.declared.error.SpecError.{SpecError}
use Rattle.tt_core.specs.declared.error.SpecError.TheVariants as tables
use Rattle.op_basis.specs.Basis.{members}
use Rattle.depth_theory.specs.declared.data.DepthVerdict.{DepthVerdict}
use Rattle.depth_theory.specs.DepthMeaning as depths
use Rattle.depth_theory.specs.DepthMeanings.{depth_means}
use Rattle.depth_theory.specs.DepthAgain.{judged_again}
use Rattle.depth_theory.specs.DepthCertificate.{DepthCertificate}
use Rattle.depth_theory.specs.DepthJudging.{Answer, IsJudged}
use Rattle.depth_theory.specs.DepthSpelling.{IsDepthText}
use Rattle.depth_file.specs.JudgedLaws.{text_judged}
use Rattle.settings.specs.declared.synth.SynthSettings.{SynthSettings}
use Rattle.synth_core.specs.Tables.{tables_alone}
use Rattle.synth_core.specs.declared.least_depth.DepthFound.{DepthFound}
use Rattle.synth_core.specs.declared.least_depth.DepthFound.TheVariants.{Least, Other}
use Rattle.synth_core.specs.DepthCertifying.{IsLeast, IsCertificate}
use Rattle.frame_core.specs.Reported.{Reply, Refusal}
use Rattle.frame_core.specs.Task.{HasReply, Refuses}
use Rattle.cmd_lines.specs.TableLines.{most_of_tables}
use Rattle.cmd_synth.specs.SynthReport.{synth_refusal, AreTables}
use Rattle.cmd_synth.specs.LeastDepthReport.{least_depth_reply, Means, IsJudgedSo, IsAcceptedSo, least_depth_task}
use Rattle.depth_theory.specs.Verdicts.{most_of_certificate, GivesLevels}
use Rattle.cmd_synth.specs.CertifiedLaws.{its_meaning, its_verdict, its_recheck}
use Rattle.cmd_synth.proofs.Synthesising.{reported_fault}
use Rattle.cmd_synth.specs.LeastDepthLaws.{least_levels}

least_means : (settings : SynthSettings) (bytes text : List ℕ) (v : DepthVerdict) → IsLeast bytes settings text v →
    (w : Words) → AreTables bytes w → Means (specification w) (members settings.basis) (Least v)
least_means settings bytes text v c w are = (length c.is_text.is_depth.chain.steps, least_levels settings bytes text v c w are)

found_means : (settings : SynthSettings) (bytes text : List ℕ) (f : DepthFound) → IsCertificate bytes settings text f → (w : Words) → AreTables bytes w → Means (specification w) (members settings.basis) f
found_means settings bytes text (Least v) c w are = least_means settings bytes text v c w are
found_means settings bytes text (Other v) c w are = its_meaning settings bytes text v c.certificate w are.are are.spelled

-- Judging the text gives the same verdict.
found_judged : (settings : SynthSettings) (bytes text : List ℕ) (f : DepthFound) → IsCertificate bytes settings text f → IsJudgedSo text f
found_judged settings bytes text (Least v) c = subst (λ (x : DepthVerdict). IsJudged (lines_of text) (Ok x)) c.verdict_is (text_judged text c.certificate c.is_text)
found_judged settings bytes text (Other v) c = its_verdict settings bytes text v c.certificate

one_verdict : (v w : DepthVerdict) (one two : Answer) → one ≡ Ok v → two ≡ Ok w → one ≡ two → v ≡ w
one_verdict v w one two is other same = cc

levels_given : (settings : SynthSettings) (bytes text : List ℕ) (v : DepthVerdict) → IsLeast bytes settings text v → length text ≤ most_of_certificate → GivesLevels text v
levels_given settings bytes text v c within =
    let judged = found_judged settings bytes text (Least v) c in
    let only : (b : DepthCertificate) → IsDepthText text b → b.verdict ≡ v = λ b is. one_verdict b.verdict v (Ok b.verdict) (Ok v) refl refl (sym (judged_again text b (Ok v) is judged)) in
    record {
      within = within;
      has = record { certificate = c.certificate; is_text = c.is_text; verdict = c.verdict_is };
      only = only;
      means = λ b is. subst (λ (x : DepthVerdict). depths.Means (specification b.certificate.header.spec)
          (members b.certificate.header.basis) (length is.is_depth.chain.steps) x) (only b is)
          (depth_means b is.is_depth);
    }

-- `recheck` reports the same verdict.
found_accepted : (settings : SynthSettings) (bytes text : List ℕ) (f : DepthFound) → IsCertificate bytes settings text f → length text ≤ most_of_certificate → IsAcceptedSo text f
found_accepted settings bytes text (Least v) c within = levels_given settings bytes text v c within
found_accepted settings bytes text (Other v) c within = its_recheck settings bytes text v c.certificate within

-- ---- the result of the search

pub reports : (settings : SynthSettings) (bytes text : List ℕ) (found : DepthFound) (reply : Reply) →
    length bytes ≤ most_of_tables → IsCertificate bytes settings text found →
    reply ≡ least_depth_reply (record { text = text; found = found }) → HasReply (least_depth_task settings) bytes reply
reports settings bytes text found reply within certificate is = record {
  answer = record { text = text; found = found };
  has = record {
    within = within;
    certificate = certificate;
    means = found_means settings bytes text found certificate;
    judged = found_judged settings bytes text found certificate;
    rechecked =
        found_accepted settings bytes text found certificate;
  };
  is = is;
}

pub refuses : (settings : SynthSettings) (bytes : List ℕ) (e : SpecError) (refusal : Refusal) →
    length bytes ≤ most_of_tables → (e ≡ tables.Memory → ⊥) → Fails e (tables_alone (lines_of bytes)) →
    refusal ≡ synth_refusal e → Refuses (least_depth_task settings) bytes refusal
refuses settings bytes e refusal within other fails is = record {
  fault = e;
  meets = record { within = within; fault = reported_fault e (tables_alone (lines_of bytes)) fails other };
  is = is;
}

pub ruleset reporting = (common_steps, reports, refuses)
