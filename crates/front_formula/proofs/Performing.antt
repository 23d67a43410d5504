-- The two commands keep their promises, and do nothing to files.
use Rattle.std.specs.Prelude.{ℕ, [], Option}
use Rattle.std.proofs.lemmas.Grind.{common_steps}
use Rattle.frame_core.specs.declared.status.Status.{Status}
use Rattle.frame_core.specs.Performed.{IsPerformed}
use Rattle.file_io.specs.Files.{FilesState}
use Rattle.file_io.specs.Served.{Pass, IsApart}
use Rattle.file_io.specs.ServedLaws.{still}
use Rattle.cmd_formula.specs.FormulaReport.{formula_task, log_task}
use Rattle.cmd_formula.specs.FormulaLaws.{formula_is_task, log_is_task}
use Rattle.front_formula.specs.FormulaRuns.{Performs}

pub formula_performed : (size : Option ℕ) (part : ℕ) (state : FilesState) (source out note : Pass) (status : Status) →
    IsPerformed (formula_task size part) source out note status →
    IsApart (Performs (formula_task size part)) (state, state) source out note status
formula_performed size part state source out note status performed =
    record { work = performed.promise [] (formula_is_task size part); unchanged = still state }

pub log_performed : (size : Option ℕ) (part : ℕ) (state : FilesState) (source out note : Pass) (status : Status) →
    IsPerformed (log_task size part) source out note status →
    IsApart (Performs (log_task size part)) (state, state) source out note status
log_performed size part state source out note status performed =
    record { work = performed.promise [] (log_is_task size part); unchanged = still state }

pub ruleset performing = (common_steps, formula_performed, log_performed)
