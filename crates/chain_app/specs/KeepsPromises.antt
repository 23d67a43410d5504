-- The contract of the top-level function, as a table of contents.
use Rattle.frame_core.specs.Run.{Run}
use Rattle.chain_app.specs.Ending.{Ending, IsEnding}
use Rattle.chain_app.specs.RunPromise.{RunPromise}
use Rattle.cmd_agree.specs.AgreePromise.{AgreePromise}
use Rattle.cmd_recheck.specs.RecheckPromise.{RecheckPromise}
use Rattle.cmd_recheck.specs.RecheckDepthPromise.{RecheckDepthPromise}
use Rattle.cmd_synth.specs.SynthPromise.{SynthPromise}
use Rattle.cmd_synth.specs.LeastDepthPromise.{LeastDepthPromise}
use Rattle.cmd_improve.specs.ImprovePromise.{ImprovePromise}
use Rattle.cmd_equiv.specs.EquivPromise.{EquivPromise}
use Rattle.cmd_gen.specs.GenPromise.{GenPromise}

pub record KeepsPromises (r : Run) : Type 0 where
  -- The run had an ending, which determines everything that a caller sees.
  pub ending : (ending : Ending) × IsEnding r ending
  -- The promise of every run, whatever its arguments are, and of every command.
  pub every : RunPromise r
  -- The promise of each command of its own.
  pub agree : AgreePromise r
  pub recheck : RecheckPromise r
  pub recheck_depth : RecheckDepthPromise r
  pub synth : SynthPromise r
  pub least_depth : LeastDepthPromise r
  pub improve : ImprovePromise r
  pub equiv : EquivPromise r
  pub gen : GenPromise r
