-- The commands of `formula` are tasks, and what they write is the text of a part.
use Rattle.std.proofs.Common.{◌≡◌, ℕ, ◌≤◌, ◌⊎◌, ◌-◌, List, length, Option, refl, sym, ap, ◌∙◌, inl}
use Rattle.text_core.specs.Lines.{lines_of}
use Rattle.sat_theory.specs.Formula.{Formula}
use Rattle.cert_theory.specs.Spelling.{text_of}
use Rattle.depth_theory.specs.Verdicts.{most_of_certificate}
use Rattle.frame_core.specs.Reported.{memory_refusal}
use Rattle.frame_core.specs.Task.{IsTask, IsRefusalStatus}
use Rattle.frame_core.specs.TaskLaws.{at_once_task}
use Rattle.cmd_recheck.specs.RecheckLaws.{recheck_is_task}
use Rattle.cmd_formula.specs.Claimed.{IsFound}
use Rattle.cmd_formula.specs.Dimacs.{dimacs_text, lrat_text, plain_log}
use Rattle.cmd_formula.specs.PlainLogs.{or_naming, plain_is}
use Rattle.cmd_formula.specs.FormulaReport.{HasPart, FormulaFault, NotValid, NoSuchPart, HasFault, formula_refusal}
use Rattle.cmd_formula.specs.FormulaReport.{part_reply, task_of, formula_part, log_part, formula_task, log_task, HasText}
use Rattle.cmd_formula.specs.LogLines.{log_lines}
use Rattle.cmd_formula.specs.PartLaws.{found_both, log_bytes_found, one_place}
use Rattle.cmd_formula.specs.Parts.{Part}

refusal_fits : (size : Option ℕ) (part : ℕ) (bytes : List ℕ) (fault : FormulaFault) → HasFault size part bytes fault →
    IsRefusalStatus (formula_refusal fault).status ⊎ (formula_refusal fault ≡ memory_refusal)
refusal_fits size part bytes (NotValid e) has = recheck_is_task.refusals bytes e has
refusal_fits size part bytes NoSuchPart has = inl (inl refl)

never_both : (size : Option ℕ) (part : ℕ) (bytes : List ℕ) (p : Part) (fault : FormulaFault) → HasPart size part bytes p → HasFault size part bytes fault → ⊥
never_both size part bytes p (NotValid e) has fault = fault.none has.certificate has.is_certificate
never_both size part bytes p NoSuchPart has fault = one_place bytes has.certificate fault.certificate size part p has.is_certificate fault.is_certificate has.is_part fault.none

one_fault : (size : Option ℕ) (part : ℕ) (bytes : List ℕ) (a b : FormulaFault) → HasFault size part bytes a → HasFault size part bytes b →
    formula_refusal a ≡ formula_refusal b
one_fault size part bytes (NotValid a) (NotValid b) x y = recheck_is_task.one bytes a b x y
one_fault size part bytes (NotValid a) NoSuchPart x y = absurd (x.none y.certificate y.is_certificate)
one_fault size part bytes NoSuchPart (NotValid b) x y = absurd (y.none x.certificate x.is_certificate)
one_fault size part bytes NoSuchPart NoSuchPart x y = refl

fault_within : (size : Option ℕ) (part : ℕ) (bytes : List ℕ) (fault : FormulaFault) → HasFault size part bytes fault → length bytes ≤ most_of_certificate
fault_within size part bytes (NotValid e) has = has.within
fault_within size part bytes NoSuchPart has = has.within

-- Writing any text of a part is a task.
pub part_is_task : (text : Part → List ℕ) (size : Option ℕ) (part : ℕ) → IsTask (task_of text size part)
part_is_task text size part =
    at_once_task most_of_certificate Part (HasPart size part) (part_reply text) FormulaFault (HasFault size part) formula_refusal
    (λ p. inl refl)
    (refusal_fits size part)
    (never_both size part)
    (one_fault size part)
    (λ bytes p has. has.within)
    (fault_within size part)

pub formula_is_task : (size : Option ℕ) (part : ℕ) → IsTask (formula_task size part)
formula_is_task = part_is_task formula_part

pub log_is_task : (size : Option ℕ) (part : ℕ) → IsTask (log_task size part)
log_is_task = part_is_task log_part

-- The part that was found is the certificate's.
found_has : (bytes : List ℕ) (size : Option ℕ) (part r : ℕ) (f : Formula) → length bytes ≤ most_of_certificate → (is : IsFound size part bytes r f) →
    HasPart size part bytes (found_both bytes size part r f is).found
found_has bytes size part r f within is = record {
  within = within;
  certificate = is.claimed.certificate;
  is_certificate = is.claimed.is_certificate;
  is_part = (found_both bytes size part r f is).is_part;
}

pub formula_written : (bytes : List ℕ) (size : Option ℕ) (part r : ℕ) (f : Formula) (written : List ℕ) → length bytes ≤ most_of_certificate →
    IsFound size part bytes r f → written ≡ dimacs_text f
    → HasText formula_part size part bytes written
formula_written bytes size part r f written within is same = record {
  answer = (found_both bytes size part r f is).found;
  has = found_has bytes size part r f within is;
  is = same ∙ ap dimacs_text (sym (found_both bytes size part r f is).formula);
}

pub log_written : (bytes : List ℕ) (size : Option ℕ) (part r : ℕ) (f : Formula) (written : List ℕ) → length bytes ≤ most_of_certificate → IsFound size part bytes r f
    → written ≡ or_naming f (text_of (log_lines r (part - 1) (lines_of bytes))) → HasText log_part size part bytes written
log_written bytes size part r f written within is same =
    let both = found_both bytes size part r f is in record {
      answer = both.found;
      has = found_has bytes size part r f within is;
      is = same
          ∙ ap (or_naming f) (log_bytes_found bytes size part r f is)
          ∙ plain_is f both.found.log
          ∙ ap (λ (g : Formula). lrat_text (plain_log g both.found.log)) (sym both.formula);
    }
