-- How a run ends that may be a large question.
use Rattle.std.specs.Prelude.{◌≡◌, ℕ, List, Option, Some, None}
use Rattle.std.proofs.Common.{refl, inl, inr, subst}
use Rattle.std.proofs.lemmas.Grind.{common_steps}
use Rattle.frame_core.specs.declared.status.Status.{Status}
use Rattle.frame_core.specs.declared.status.Status.TheVariants as statuses
use Rattle.frame_core.specs.Outside.{PortState, Writes}
use Rattle.frame_core.specs.Reported.{error_line, memory}
use Rattle.file_io.specs.Files.{FilesState, Files}
use Rattle.file_io.specs.Served.{Pass, IsApart, IsDelivered, IsRead}
use Rattle.file_io.specs.ServedLaws.{still}
use Rattle.file_words.specs.Sorting.{Line}
use Rattle.file_words.specs.Lines.{line_value}
use Rattle.front_core.specs.Asked.{IsNotPlain, name_in, first_in}
use Rattle.front_core.specs.Front.{Promises, front_run}
use Rattle.front_formula.specs.FormulaRuns as formula
use Rattle.front_formula.specs.FormulaRuns.{Performs, reads_line}
use Rattle.front_large.specs.declared.asking.LargeLine.{LargeLine}
use Rattle.front_large.specs.declared.large.Large.{Large}
use Rattle.front_large.specs.LargeAsked.{IsLargeOf}
use Rattle.front_large.specs.LargeRuns.{task_of, IsLargeDone, IsServed}

-- ---- an answer

-- the files by their names
pub answered : (line : Line) (asked : Large) (input output : Option (List ℕ)) (files : Files) (source out note : Pass)
    (status : Status) → input ≡ name_in (first_in line.operands) → output ≡ name_in line.output →
    IsDelivered output (IsRead input (IsApart (Performs (task_of asked)))) files source out note status →
    (words : List (List ℕ)) → IsLargeDone line asked (front_run words files source out note status)
answered line asked input output files source out note status i o delivered words =
    subst (λ (x : Option (List ℕ)). IsDelivered x (reads_line line (task_of asked)) files source out note status) o
    (subst (λ (x : Option (List ℕ)). IsDelivered output (IsRead x (IsApart (Performs (task_of asked)))) files source out note status) i
    delivered)

pub ruleset answers = (common_steps, answered)

-- ---- all words

pub large_run : (p : Promises) (words : List (List ℕ)) (found : Option LargeLine) (l : LargeLine) (files : Files)
    (source out note : Pass) (status : Status) → IsLargeOf words found → found ≡ Some l →
    ((all : List (List ℕ)) → IsLargeDone (line_value l.line) l.asked (front_run all files source out note status)) →
    IsServed p (front_run words files source out note status)
large_run p words found l files source out note status of is done =
    let asks = subst (IsLargeOf words) is of in
    inl (record { line = line_value l.line; asked = l.asked; asks = asks.0; served = done words })

pub other_run : (p : Promises) (words : List (List ℕ)) (found : Option LargeLine) (files : Files)
    (source out note : Pass) (status : Status) → IsLargeOf words found → found ≡ None →
    formula.IsServed p (front_run words files source out note status) →
    IsServed p (front_run words files source out note status)
other_run p words found files source out note status of is served =
    inr (inl (record { none = subst (IsLargeOf words) is of; served = served }))

pub no_memory : (p : Promises) (words : List (List ℕ)) (state : FilesState) (source out note note' : PortState)
    (status : Status) → IsNotPlain words → Writes note note' (error_line memory) → status ≡ statuses.Memory →
    IsServed p (front_run words (state, state) (source, source) (out, out) (note, note') status)
no_memory p words state source out note note' status other writes is =
    inr (inr (record {
      other = other;
      reports = record { unchanged = still state; on_source = refl; on_out = refl; on_note = writes; status_is = is };
    }))

pub ruleset runs = (common_steps, large_run, other_run, no_memory)
