-- The task of every command is well formed.
use Rattle.command_line.specs.declared.command.Command.{Command}
use Rattle.command_line.specs.declared.command.Command.TheVariants.{Agree, Recheck, RecheckDepth, Synth, LeastDepth, Improve, Equiv, Gen}
use Rattle.frame_core.specs.Task.{IsTask}
use Rattle.chain_app.specs.Tasks.{task_of}
use Rattle.cmd_agree.specs.AgreeLaws.{agree_is_task}
use Rattle.cmd_recheck.specs.RecheckLaws.{recheck_is_task}
use Rattle.cmd_recheck.specs.RecheckDepthLaws.{depth_is_task}
use Rattle.cmd_synth.specs.SynthLaws.{synth_is_task}
use Rattle.cmd_synth.specs.LeastDepthLaws.{least_depth_is_task}
use Rattle.cmd_improve.specs.ImproveLaws.{improve_is_task}
use Rattle.cmd_equiv.specs.EquivLaws.{equiv_is_task}
use Rattle.cmd_gen.specs.GenLaws.{gen_is_task}

pub is_task : (command : Command) → IsTask (task_of command)
is_task Agree = agree_is_task
is_task Recheck = recheck_is_task
is_task RecheckDepth = depth_is_task
is_task (Synth settings) = synth_is_task settings
is_task (LeastDepth settings) = least_depth_is_task settings
is_task (Improve format settings) = improve_is_task format settings
is_task (Equiv budget) = equiv_is_task budget
is_task (Gen blocks action) = gen_is_task blocks action
