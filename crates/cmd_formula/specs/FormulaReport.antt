-- The tasks of `formula`: the formula of a part in DIMACS, its log as plain LRAT, and the refusals.
use Rattle.std.specs.Prelude.{◌≡◌, ℕ, ◌≤◌, List, length, Option, Some, None, codes}
use Rattle.cert_theory.specs.declared.data.CertificateError.{CertificateError}
use Rattle.cert_theory.specs.Certificate.{Certificate}
use Rattle.cert_theory.specs.Spelling.{IsCertificateText}
use Rattle.depth_theory.specs.Verdicts.{most_of_certificate}
use Rattle.frame_core.specs.declared.status.Status.TheVariants.{Done, Malformed}
use Rattle.frame_core.specs.Reported.{Reply, Field, Refusal, plain}
use Rattle.frame_core.specs.Task.{Task, at_once}
use Rattle.cmd_recheck.specs.RecheckReport.{recheck_refusal, HasCertificateFault}
use Rattle.cmd_formula.specs.Dimacs.{dimacs_text, lrat_text, plain_log}
use Rattle.cmd_formula.specs.Parts.{Part, part_of}

-- The bytes, no more than are read, are the text of a valid certificate, whose part this is.
pub record HasPart (size : Option ℕ) (part : ℕ) (bytes : List ℕ) (p : Part) : Type 0 where
  pub within : length bytes ≤ most_of_certificate
  pub certificate : Certificate
  pub is_certificate : IsCertificateText bytes certificate
  pub is_part : part_of certificate size part ≡ Some p

-- They are the text of a valid certificate without such a part.
pub record HasNoPart (size : Option ℕ) (part : ℕ) (bytes : List ℕ) : Type 0 where
  pub within : length bytes ≤ most_of_certificate
  pub certificate : Certificate
  pub is_certificate : IsCertificateText bytes certificate
  pub none : part_of certificate size part ≡ None

-- Why there is no answer: the text isn't that of a valid certificate, or it has no such part.
pub data FormulaFault : Type 0 where
  NotValid : (error : CertificateError) → FormulaFault
  NoSuchPart : FormulaFault

abbrev pub HasFault : Option ℕ → ℕ → List ℕ → FormulaFault → Type 0
HasFault size part bytes (NotValid error) = HasCertificateFault bytes error
HasFault size part bytes NoSuchPart = HasNoPart size part bytes

unfoldable pub no_such_part : List Field
no_such_part = plain (codes "NoSuchPart")

-- a text that isn't that of a valid certificate is refused as by `recheck`
abbrev pub formula_refusal : FormulaFault → Refusal
formula_refusal (NotValid error) = recheck_refusal error
formula_refusal NoSuchPart = record { status = Malformed; named = no_such_part }

abbrev pub part_reply : (Part → List ℕ) → Part → Reply
part_reply text p = record { text = text p; report = None; status = Done }

-- the task that writes a text of a part
abbrev pub task_of : (Part → List ℕ) → Option ℕ → ℕ → Task
task_of text size part = at_once most_of_certificate Part (HasPart size part) (part_reply text) FormulaFault
    (HasFault size part) formula_refusal

abbrev pub formula_part : Part → List ℕ
formula_part p = dimacs_text p.formula

abbrev pub log_part : Part → List ℕ
log_part p = lrat_text (plain_log p.formula p.log)

-- the formula in DIMACS, and the log as plain LRAT
abbrev pub formula_task : Option ℕ → ℕ → Task
formula_task = task_of formula_part

abbrev pub log_task : Option ℕ → ℕ → Task
log_task = task_of log_part

-- the written bytes are this text of the part
pub record HasText (text : Part → List ℕ) (size : Option ℕ) (part : ℕ) (bytes written : List ℕ) : Type 0 where
  pub answer : Part
  pub has : HasPart size part bytes answer
  pub is : written ≡ text answer
