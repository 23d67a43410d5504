-- The answers keep the promises of commands, and do nothing to files.
use Rattle.std.specs.Prelude.{◌≡◌, ℕ, []}
use Rattle.std.proofs.Common.{sym, subst}
use Rattle.std.proofs.lemmas.Grind.{common_steps}
use Rattle.frame_core.specs.declared.status.Status.{Status}
use Rattle.frame_core.specs.Performed.{IsPerformed}
use Rattle.file_io.specs.Files.{FilesState}
use Rattle.file_io.specs.Served.{Pass, IsApart}
use Rattle.file_io.specs.ServedLaws.{still}
use Rattle.cmd_part.specs.declared.part.PartOfSearch.{PartOfSearch}
use Rattle.cmd_part.specs.PartReport.{part_task}
use Rattle.cmd_part.specs.PartLaws.{part_is_task}
use Rattle.cmd_recheck.specs.LongReport.{long_task, long_depth_task}
use Rattle.cmd_recheck.specs.LongLaws.{long_is_task, long_depth_is_task}
use Rattle.front_formula.specs.FormulaRuns.{Performs}
use Rattle.front_large.specs.declared.large.Large.{Large}
use Rattle.front_large.specs.declared.large.Large.TheVariants.{Part, Steps, Levels}
use Rattle.front_large.specs.LargeRuns.{task_of}

pub part_performed : (large : Large) (part : PartOfSearch) (state : FilesState) (source out note : Pass) (status : Status) →
    large ≡ Part part → IsPerformed (part_task part) source out note status →
    IsApart (Performs (task_of large)) (state, state) source out note status
part_performed large part state source out note status is performed =
    subst (λ (l : Large). IsApart (Performs (task_of l)) (state, state) source out note status) (sym is)
    (let apart : IsApart (Performs (part_task part)) (state, state) source out note status =
    record { work = performed.promise [] (part_is_task part); unchanged = still state } in apart)

pub steps_performed : (large : Large) (most : ℕ) (state : FilesState) (source out note : Pass) (status : Status) →
    large ≡ Steps most → IsPerformed (long_task most) source out note status →
    IsApart (Performs (task_of large)) (state, state) source out note status
steps_performed large most state source out note status is performed =
    subst (λ (l : Large). IsApart (Performs (task_of l)) (state, state) source out note status) (sym is)
    (let apart : IsApart (Performs (long_task most)) (state, state) source out note status =
    record { work = performed.promise [] (long_is_task most); unchanged = still state } in apart)

pub levels_performed : (large : Large) (most : ℕ) (state : FilesState) (source out note : Pass) (status : Status) →
    large ≡ Levels most → IsPerformed (long_depth_task most) source out note status →
    IsApart (Performs (task_of large)) (state, state) source out note status
levels_performed large most state source out note status is performed =
    subst (λ (l : Large). IsApart (Performs (task_of l)) (state, state) source out note status) (sym is)
    (let apart : IsApart (Performs (long_depth_task most)) (state, state) source out note status =
    record { work = performed.promise [] (long_depth_is_task most); unchanged = still state } in apart)

pub ruleset performing = (common_steps, part_performed, steps_performed, levels_performed)
