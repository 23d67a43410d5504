-- The task of each command.
use Rattle.command_line.specs.declared.command.Command.{Command}
use Rattle.command_line.specs.declared.command.Command.TheVariants.{Agree, Recheck, RecheckDepth, Synth, LeastDepth}
use Rattle.command_line.specs.declared.command.Command.TheVariants.{Improve, Equiv, Gen}
use Rattle.frame_core.specs.Task.{Task}
use Rattle.cmd_agree.specs.AgreeReport.{agree_task}
use Rattle.cmd_recheck.specs.RecheckReport.{recheck_task}
use Rattle.cmd_recheck.specs.RecheckDepthReport.{depth_task}
use Rattle.cmd_synth.specs.SynthReport.{synth_task}
use Rattle.cmd_synth.specs.LeastDepthReport.{least_depth_task}
use Rattle.cmd_improve.specs.ImproveReport.{improve_task}
use Rattle.cmd_equiv.specs.EquivReport.{equiv_task}
use Rattle.cmd_gen.specs.GenReport.{gen_task}

abbrev pub task_of : Command → Task
task_of Agree = agree_task
task_of Recheck = recheck_task
task_of RecheckDepth = depth_task
task_of (Synth settings) = synth_task settings
task_of (LeastDepth settings) = least_depth_task settings
task_of (Improve format settings) = improve_task format settings
task_of (Equiv budget) = equiv_task budget
task_of (Gen blocks action) = gen_task blocks action
