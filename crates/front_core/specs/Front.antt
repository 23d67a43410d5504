-- How a run of the front ends.
use Rattle.std.specs.Prelude.{◌≡◌, List, ℕ, Option, Some, None}
use Rattle.command_line.specs.declared.command.Command.{Command}
use Rattle.command_line.specs.CommandLine.{AsksFor}
use Rattle.frame_core.specs.declared.status.Status.{Status}
use Rattle.frame_core.specs.declared.status.Status.TheVariants.{Usage, Memory}
use Rattle.frame_core.specs.Outside.{Writes}
use Rattle.frame_core.specs.Reported.{Field, error_line, usage, memory}
use Rattle.frame_core.specs.Run.{Run, run_of}
use Rattle.file_io.specs.Files.{Files, IsUnchanged}
use Rattle.file_io.specs.Served.{Pass, Does, IsApart, IsDelivered, IsRead}
use Rattle.file_words.specs.Sorting.{Line}
use Rattle.front_core.specs.Asked.{AsksWithFiles, IsNotPlain, name_in, first_in, second_in, pair_budget}
use Rattle.front_core.specs.Certified.{IsCertified}
use Rattle.front_core.specs.Paired.{Compares, IsPaired}

-- what a caller sees of a run: the words, what names hold, source and sinks before and after, the status
pub record FrontRun : Type 0 where
  pub words : List (List ℕ)
  pub files : Files
  pub source : Pass
  pub out : Pass
  pub note : Pass
  pub status : Status

abbrev pub front_run : List (List ℕ) → Files → Pass → Pass → Pass → Status → FrontRun
front_run words files source out note status = record {
  words = words;
  files = files;
  source = source;
  out = out;
  note = note;
  status = status;
}

-- Words that are a command line as they are mean to the byte what they mean to the program without files.
pub record IsPlain (keeps : Run → Type 0) (r : FrontRun) : Type 0 where
  pub command : Command
  pub asks : AsksFor r.words command
  pub kept : keeps (run_of r.words r.source r.out r.note r.status)
  pub unchanged : IsUnchanged r.files.0 r.files.1

-- A line was reported, and nothing else happened.
pub record Reports (line : List Field) (status : Status) (r : FrontRun) : Type 0 where
  pub unchanged : IsUnchanged r.files.0 r.files.1
  pub on_source : r.source.1 ≡ r.source.0
  pub on_out : r.out.1 ≡ r.out.0
  pub on_note : Writes r.note.0 r.note.1 (error_line line)
  pub status_is : r.status ≡ status

-- The words ask for nothing, with files or without.
pub record IsIdle (r : FrontRun) : Type 0 where
  pub other : IsNotPlain r.words
  pub none : (command : Command) (line : Line) → AsksWithFiles r.words command line → ⊥
  pub reports : Reports usage Usage r

-- Memory ran out before the words were read.
pub record IsOutOfMemory (r : FrontRun) : Type 0 where
  pub other : IsNotPlain r.words
  pub reports : Reports memory Memory r

-- a run over these words, whatever its source and its sinks are
abbrev pub runs : (Run → Type 0) → List (List ℕ) → Pass → Pass → Pass → Status → Type 0
runs keeps words source out note status = keeps (run_of words source out note status)

-- what a program promises: of a run over words, of one over a file that is named, and of a comparison with a budget
pub record Promises : Type 1 where
  pub keeps : Run → Type 0
  pub keeps_named : Run → Type 0
  pub compares : ℕ → Compares

-- what is promised of a run over the file that is named, or over the source where none is
abbrev pub over : (Run → Type 0) → (Run → Type 0) → Option (List ℕ) → Run → Type 0
over keeps keeps_named None = keeps
over keeps keeps_named (Some name) = keeps_named

-- The outputs of a line: they are created before the work begins.
abbrev pub IsDone : Line → Does → FrontRun → Type 0
IsDone line does r =
    IsDelivered (name_in line.output) (IsCertified (name_in line.certificate) does) r.files r.source r.out r.note r.status

-- Two files are compared, and never joined; any other command ran, without the files, over the bytes of the one that
-- is named.
abbrev pub IsServedLine : Promises → Option ℕ → Line → FrontRun → Type 0
IsServedLine p (Some budget) line r =
    IsDone line (IsPaired (name_in (first_in line.operands)) (name_in (second_in line.operands)) (p.compares budget)) r
IsServedLine p None line r =
    IsDone line (IsRead (name_in (first_in line.operands)) (IsApart (runs (over p.keeps p.keeps_named (name_in (first_in line.operands))) line.words))) r

-- The words name files.
pub record IsWithFiles (p : Promises) (r : FrontRun) : Type 0 where
  pub command : Command
  pub line : Line
  pub asks : AsksWithFiles r.words command line
  pub served : IsServedLine p (pair_budget command line.operands) line r

-- how a run ends
pub data Ending : Type 0 where
  Plain : Ending
  WithFiles : Ending
  Idle : Ending
  OutOfMemory : Ending

abbrev pub IsEnding : Promises → FrontRun → Ending → Type 0
IsEnding p r Plain = IsPlain p.keeps r
IsEnding p r WithFiles = IsWithFiles p r
IsEnding p r Idle = IsIdle r
IsEnding p r OutOfMemory = IsOutOfMemory r

abbrev pub promised_by : (Run → Type 0) → (Run → Type 0) → (ℕ → Compares) → Promises
promised_by keeps keeps_named compares = record { keeps = keeps; keeps_named = keeps_named; compares = compares }
