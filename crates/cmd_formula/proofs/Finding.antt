-- The claim, the part and the reply for a text.
use Rattle.std.specs.Prelude.{◌≡◌, ℕ, ◌≤◌, List, length, Option, Some, None, Ok, Err}
use Rattle.std.proofs.Common.{ap, ◌∙◌}
use Rattle.std.proofs.lemmas.Grind.{common_steps}
use Rattle.text_core.specs.Lines.{lines_of}
use Rattle.cert_theory.specs.Certificate.{Certificate}
use Rattle.cert_theory.specs.Judging.{certificate_of}
use Rattle.cert_theory.specs.Spelling.{IsCertificateText}
use Rattle.cert_laws.specs.CertificateSpellings.{verdict_spelled}
use Rattle.cert_file.specs.Claims.{IsClaim}
use Rattle.cert_file.specs.declared.claim.Claim.{Claim}
use Rattle.depth_theory.specs.Verdicts.{most_of_certificate}
use Rattle.frame_core.specs.declared.replies.Stop.{Stop}
use Rattle.frame_core.specs.declared.replies.Stop.TheVariants.{NoMemory, NoAnswer}
use Rattle.frame_core.specs.declared.status.Status.TheVariants.{Done}
use Rattle.frame_core.specs.Reported.{Reply, Refusal}
use Rattle.frame_core.specs.Task.{HasReply, Refuses}
use Rattle.frame_core.specs.Views.{Judges}
use Rattle.cmd_recheck.specs.RecheckReport.{recheck_task}
use Rattle.cmd_formula.specs.Claimed.{IsClaimed}
use Rattle.cmd_formula.specs.FormulaLaws.{formula_written, log_written}
use Rattle.cmd_formula.specs.FormulaReport.{NotValid, NoSuchPart, formula_refusal, task_of, HasText}
use Rattle.cmd_formula.specs.PartLaws.{claimed_few, claimed_basis, claimed_none, claimed_no_formula}
use Rattle.cmd_formula.specs.Parts.{Part, count_of, size_in, formula_at}

-- a text with a verdict is that of a certificate, and this is what it claims
pub claimed : (bytes : List ℕ) (t : Claim) → certificate_of (lines_of bytes) ≡ Ok t.verdict → ((b : Certificate) → IsCertificateText bytes b → IsClaim b t) →
    IsClaimed bytes t
claimed bytes t read claim =
    let has = verdict_spelled bytes t.verdict read in
    record { certificate = has.certificate; is_certificate = has.is_certificate; is_claim = claim has.certificate has.is_certificate }

-- what `recheck` refuses is refused so
pub as_recheck : (bytes : List ℕ) (stop : Stop) (text : Part → List ℕ) (size : Option ℕ) (part : ℕ) → Judges recheck_task bytes (Err stop) →
    Judges (task_of text size part) bytes (Err stop)
as_recheck bytes NoMemory text size part is = tt
as_recheck bytes (NoAnswer refusal) text size part is = record { fault = NotValid is.fault; meets = is.meets; is = is.is }

pub no_size : (bytes : List ℕ) (t : Claim) (text : Part → List ℕ) (size : Option ℕ) (part : ℕ) (refusal : Refusal) → length bytes ≤ most_of_certificate →
    IsClaimed bytes t
    → size_in (count_of t.header t.chain) size ≡ None → refusal ≡ formula_refusal NoSuchPart → Refuses (task_of text size part) bytes refusal
no_size bytes t text size part refusal within is none same = record {
  fault = NoSuchPart;
  meets = record { within = within; certificate = is.certificate; is_certificate = is.is_certificate; none = claimed_none bytes t size part is none };
  is = same;
}

pub no_formula : (bytes : List ℕ) (t : Claim) (text : Part → List ℕ) (size : Option ℕ) (part r : ℕ) (refusal : Refusal) → length bytes ≤ most_of_certificate →
    IsClaimed bytes t
    → size_in (count_of t.header t.chain) size ≡ Some r → formula_at t.header part r ≡ None → refusal ≡ formula_refusal NoSuchPart →
    Refuses (task_of text size part) bytes refusal
no_formula bytes t text size part r refusal within is at none same = record {
  fault = NoSuchPart;
  meets = record { within = within; certificate = is.certificate; is_certificate = is.is_certificate; none = claimed_no_formula bytes t size part r is at none };
  is = same;
}

pub replied : (text : Part → List ℕ) (size : Option ℕ) (part : ℕ) (bytes written : List ℕ) (reply : Reply) → HasText text size part bytes written →
    reply ≡ record { text = written; report = None; status = Done }
    → HasReply (task_of text size part) bytes reply
replied text size part bytes written reply has same = record {
  answer = has.answer;
  has = has.has;
  is = same ∙ ap (λ (t : List ℕ). let r : Reply = record { text = t; report = None; status = Done } in r) has.is;
}

pub ruleset finding = (common_steps, claimed, as_recheck, no_size, no_formula, replied, claimed_few, claimed_basis, formula_written, log_written)
