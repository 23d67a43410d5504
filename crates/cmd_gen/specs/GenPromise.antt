-- The promise of `gen`, besides that of every command.
use Rattle.std.specs.Prelude.{◌≡◌, ℕ, [], ◌⊎◌}
use Rattle.command_line.specs.declared.command.GenAction.{GenAction}
use Rattle.command_line.specs.declared.command.GenAction.TheVariants.{Write, Improve}
use Rattle.command_line.specs.declared.command.Command.TheVariants.{Gen}
use Rattle.command_line.specs.CommandLine.{AsksFor}
use Rattle.frame_core.specs.declared.status.Status.TheVariants.{Done, WriteFault, Memory}
use Rattle.frame_core.specs.Run.{Run}
use Rattle.frame_core.specs.Promise.{OutputHeld, AllSteady, Stands, ReportTruncated}
use Rattle.cmd_improve.specs.ImproveReport.{Improvement, improve_reply}
use Rattle.cmd_gen.specs.GenReport.{gen_reply, IsImprovedNetlist, gen_task}

-- The answer of `improve` for the netlist was written.
pub record ImprovesNetlist (blocks : ℕ) (r : Run) : Type 0 where
  pub improvement : Improvement
  pub is : IsImprovedNetlist blocks improvement
  pub stands : Stands r (improve_reply improvement)

pub record GenPromise (r : Run) : Type 0 where
  -- The netlist of `blocks` blocks is written to the output.
  pub complete : (blocks : ℕ)
      → AsksFor r.words (Gen blocks Write)
      → OutputHeld r
      → Stands r (gen_reply blocks)
  -- The status 0 occurs only with that.
  pub done_only : (blocks : ℕ)
      → AsksFor r.words (Gen blocks Write)
      → r.status ≡ Done
      → Stands r (gen_reply blocks)
  -- If it is improved, the answer of `improve` for that netlist with its defaults is written, with the report.
  pub improved : (blocks : ℕ)
      → AsksFor r.words (Gen blocks Improve)
      → AllSteady r
      → ImprovesNetlist blocks r
  -- If no call failed but maybe of the notes, the same holds, or the notes failed while the report was written.
  pub answered : (blocks : ℕ)
      → AsksFor r.words (Gen blocks Improve)
      → OutputHeld r
      → ImprovesNetlist blocks r ⊎ ReportTruncated (gen_task blocks Improve) r []
  -- The status 0 occurs only with that.
  pub improved_only : (blocks : ℕ)
      → AsksFor r.words (Gen blocks Improve)
      → r.status ≡ Done
      → ImprovesNetlist blocks r
  -- The source is never called. Otherwise the run ends with a write fault, or because memory ran out.
  pub untouched : (blocks : ℕ) (action : GenAction) → AsksFor r.words (Gen blocks action) → r.source' ≡ r.source
  pub others : (blocks : ℕ) (action : GenAction)
      → AsksFor r.words (Gen blocks action)
      → (r.status ≡ Done) ⊎ ((r.status ≡ WriteFault) ⊎ (r.status ≡ Memory))
