-- The result of `gen`.
use Rattle.std.specs.Prelude.{◌≡◌, ℕ, ◌≤◌, List, length}
use Rattle.std.proofs.Common.{subst}
use Rattle.std.proofs.lemmas.Grind.{common_steps}
use Rattle.blif_core.specs.Blif.{blif_format}
use Rattle.gen_core.specs.Generated.{generated_text}
use Rattle.settings.specs.Improve.{defaults}
use Rattle.improve_windows.specs.Improving.{IsReported}
use Rattle.command_line.specs.declared.command.GenAction.TheVariants.{Write, Improve}
use Rattle.frame_core.specs.Reported.{Reply}
use Rattle.frame_core.specs.Task.{HasReply}
use Rattle.cmd_improve.specs.ImproveReport.{improve_reply}
use Rattle.net_theory.specs.Limits.{most_of_netlist}
use Rattle.cmd_gen.specs.GenReport.{gen_reply, gen_task}

pub reports : (blocks : ℕ) (bytes : List ℕ) (reply : Reply) → reply ≡ gen_reply blocks → HasReply (gen_task blocks Write) bytes reply
reports blocks bytes reply is = record { answer = tt; has = tt; is = is }

pub reports_improved : (blocks : ℕ) (bytes netlist text report : List ℕ) (reply : Reply) →
    netlist ≡ generated_text blocks → length (generated_text blocks) ≤ most_of_netlist →
    IsReported blif_format defaults netlist text report →
    reply ≡ improve_reply (record { text = text; report = report }) → HasReply (gen_task blocks Improve) bytes reply
reports_improved blocks bytes netlist text report reply same within reported is = record {
  answer = record { text = text; report = report };
  has = record { within = within; reported = subst (λ (n : List ℕ). IsReported blif_format defaults n text report) same reported };
  is = is;
}

pub ruleset reporting = (common_steps, reports, reports_improved)
