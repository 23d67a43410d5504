-- The task of `gen`, and its replies.
use Rattle.std.specs.Prelude.{ℕ, None}
use Rattle.gen_core.specs.Generated.{generated_text}
use Rattle.settings.specs.Improve.{defaults}
use Rattle.command_line.specs.declared.command.GenAction.{GenAction}
use Rattle.command_line.specs.declared.command.GenAction.TheVariants.{Write, Improve}
use Rattle.command_line.specs.declared.command.Format.TheVariants.{Blif}
use Rattle.frame_core.specs.declared.status.Status.TheVariants.{Done}
use Rattle.frame_core.specs.Reported.{Reply}
use Rattle.frame_core.specs.Task.{Task, from_nothing}
use Rattle.cmd_improve.specs.ImproveReport.{Improvement, improve_reply, IsImprovement}

-- the netlist of `blocks` blocks
abbrev pub gen_reply : ℕ → Reply
gen_reply blocks = record { text = generated_text blocks; report = None; status = Done }

-- The answer of `improve` for that netlist, with the defaults of all options.
abbrev pub IsImprovedNetlist : ℕ → Improvement → Type 0
IsImprovedNetlist blocks i = IsImprovement Blif defaults (generated_text blocks) i

-- It reads nothing. If the netlist is written, it is the only answer; if it is improved, the answers are those of
-- `improve`.
abbrev pub gen_task : ℕ → GenAction → Task
gen_task blocks Write = from_nothing (Unit {0}) (λ (u : Unit {0}). Unit {0}) (λ (u : Unit {0}). gen_reply blocks)
gen_task blocks Improve = from_nothing Improvement (IsImprovedNetlist blocks) improve_reply
