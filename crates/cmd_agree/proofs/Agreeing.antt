-- The result of `agree` for an input.
use Rattle.std.specs.Prelude.{◌≡◌, ℕ, ◌≤◌, List, length}
use Rattle.std.proofs.Common.{refl}
use Rattle.std.proofs.lemmas.Grind.{common_steps}
use Rattle.cmd_agree.specs.declared.agree.AgreeAnswer.{AgreeAnswer}
use Rattle.cmd_agree.specs.declared.agree.AgreeError.{AgreeError}
use Rattle.cmd_agree.specs.declared.agree.AgreeError.TheVariants as errors
use Rattle.cmd_agree.specs.Agree.{HasFault, question_of, IsCause, Fails, HasAnswer}
use Rattle.cmd_lines.specs.TableLines.{most_of_tables}
use Rattle.cmd_agree.specs.AgreeReport.{agree_reply, agree_task}
use Rattle.frame_core.specs.Reported.{Reply}
use Rattle.frame_core.specs.Task.{HasReply}

-- Within the limit, an error of the readers is a cause.
pub cause_of : (bytes : List ℕ) (error : AgreeError) → length bytes ≤ most_of_tables → Fails error (question_of bytes) → IsCause bytes error
cause_of bytes (errors.Tables e) within fails = record { within = within; fault = fails }
cause_of bytes (errors.Chained e) within fails = record { within = within; fault = fails }
cause_of bytes (errors.BadEnd line) within fails = record { within = within; fault = fails }
cause_of bytes errors.Memory within fails = tt

-- Within the limit, a cause that isn't running out of memory is a fault.
pub fault_of : (bytes : List ℕ) (error : AgreeError) → length bytes ≤ most_of_tables → IsCause bytes error → (error ≡ errors.Memory → ⊥) → HasFault bytes error
fault_of bytes (errors.Tables e) within cause other = cause
fault_of bytes (errors.Chained e) within cause other = cause
fault_of bytes (errors.BadEnd line) within cause other = cause
fault_of bytes errors.Memory within cause other = absurd (other refl)

pub reports : (bytes : List ℕ) (answer : AgreeAnswer) (reply : Reply) → HasAnswer bytes answer → reply ≡ agree_reply answer → HasReply agree_task bytes reply
reports bytes answer reply has is = record { answer = answer; has = has; is = is }

pub ruleset reporting = (common_steps, reports)
