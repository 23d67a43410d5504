-- How a run ends that may write the values of two netlists.
use Rattle.std.specs.Prelude.{◌≡◌, ℕ, List, [], Bool, Option, Some, None}
use Rattle.std.proofs.Common.{refl, inl, inr, subst}
use Rattle.std.proofs.lemmas.Grind.{common_steps}
use Rattle.format_names.specs.declared.formats.FormatPair.{FormatPair}
use Rattle.frame_core.specs.declared.status.Status.{Status}
use Rattle.frame_core.specs.declared.status.Status.TheVariants as statuses
use Rattle.frame_core.specs.Outside.{PortState, Writes}
use Rattle.frame_core.specs.Performed.{IsPerformed}
use Rattle.frame_core.specs.Reported.{error_line, memory}
use Rattle.file_io.specs.Files.{FilesState, Files}
use Rattle.file_io.specs.Served.{Pass}
use Rattle.file_io.specs.ServedLaws.{still}
use Rattle.file_words.specs.Sorting.{Line}
use Rattle.file_words.specs.Lines.{line_value}
use Rattle.front_core.specs.Asked.{IsNotPlain, name_in, first_in, second_in}
use Rattle.front_core.specs.Front.{Promises, front_run, IsDone}
use Rattle.front_core.specs.Paired.{IsPaired}
use Rattle.front_large.specs.LargeRuns as large
use Rattle.cmd_at.specs.AtReport.{at_task}
use Rattle.cmd_at.specs.AtLaws.{at_is_task}
use Rattle.front_at.specs.declared.asking.AtLine.{AtLine}
use Rattle.front_at.specs.AtAsked.{IsAtOf}
use Rattle.front_at.specs.AtRuns.{WritesValues, AreValuesDone, IsServed}

-- ---- the command

pub performed_values : (formats : FormatPair) (bits : List Bool) (text : List ℕ) (source out note : Pass) (status : Status) →
    IsPerformed (at_task formats bits text) source out note status →
    WritesValues formats bits text source out note status
performed_values formats bits text source out note status performed = performed.promise [] (at_is_task formats bits text)

pub ruleset performing = (common_steps, performed_values)

-- ---- an answer

-- the files by their names, and the bits as a slice
pub answered : (formats : FormatPair) (line : Line) (bits slice : List Bool) (first second : Option (List ℕ)) (files : Files)
    (source out note : Pass) (status : Status) → slice ≡ bits → first ≡ name_in (first_in line.operands) →
    second ≡ name_in (second_in line.operands) →
    ((all : List (List ℕ)) → IsDone line (IsPaired first second (WritesValues formats slice)) (front_run all files source out note status)) →
    (words : List (List ℕ)) → AreValuesDone formats line bits (front_run words files source out note status)
answered formats line bits slice first second files source out note status same i k done words =
    subst (λ (x : Option (List ℕ)). IsDone line
    (IsPaired x (name_in (second_in line.operands)) (WritesValues formats bits)) (front_run words files source out note status)) i
    (subst (λ (x : Option (List ℕ)). IsDone line
    (IsPaired first x (WritesValues formats bits)) (front_run words files source out note status)) k
    (subst (λ (x : List Bool). IsDone line
    (IsPaired first second (WritesValues formats x)) (front_run words files source out note status)) same (done words)))

pub ruleset answers = (common_steps, answered)

-- ---- all words

pub values_run : (formats : FormatPair) (p : Promises) (words : List (List ℕ)) (found : Option AtLine) (l : AtLine)
    (files : Files) (source out note : Pass) (status : Status) → IsAtOf words found → found ≡ Some l →
    ((all : List (List ℕ)) → AreValuesDone formats (line_value l.line) l.bits.items (front_run all files source out note status)) →
    IsServed formats p (front_run words files source out note status)
values_run formats p words found l files source out note status of is done =
    inl (record { line = line_value l.line; bits = l.bits.items; asks = subst (IsAtOf words) is of; served = done words })

pub other_run : (formats : FormatPair) (p : Promises) (words : List (List ℕ)) (found : Option AtLine) (files : Files)
    (source out note : Pass) (status : Status) → IsAtOf words found → found ≡ None →
    large.IsServed p (front_run words files source out note status) →
    IsServed formats p (front_run words files source out note status)
other_run formats p words found files source out note status of is served =
    inr (inl (record { none = subst (IsAtOf words) is of; served = served }))

pub no_memory : (formats : FormatPair) (p : Promises) (words : List (List ℕ)) (state : FilesState)
    (source out note note' : PortState) (status : Status) → IsNotPlain words → Writes note note' (error_line memory) →
    status ≡ statuses.Memory →
    IsServed formats p (front_run words (state, state) (source, source) (out, out) (note, note') status)
no_memory formats p words state source out note note' status other writes is =
    inr (inr (record {
      other = other;
      reports = record { unchanged = still state; on_source = refl; on_out = refl; on_note = writes; status_is = is };
    }))

pub ruleset runs = (common_steps, values_run, other_run, no_memory)
