-- The contract of the library's function.
use Rattle.std.specs.Prelude.{◌≡◌, ℕ, ◌+◌, ◌<◌, ◌≤◌, ◌⊎◌, List, [], ◌++◌, length, drop, All, Some}
use Rattle.std.specs.Str.{IsUtf8}
use Rattle.port_io.specs.Memory.{Store, first_schedule}
use Rattle.text_core.specs.Items.{items_of}
use Rattle.frame_core.specs.declared.status.Status.{Status}
use Rattle.frame_core.specs.declared.status.Status.TheVariants.{WriteFault, Memory}
use Rattle.frame_core.specs.Statuses.{number_of}
use Rattle.frame_core.specs.Outside.{PortState}
use Rattle.frame_core.specs.Run.{Run, run_of}
use Rattle.chain_app.specs.KeepsPromises.{KeepsPromises}
use Rattle.chain_app.specs.Pair.{KeepsPair}

-- Some word of the command line isn't UTF-8, and there are no words.
pub record IsNoText (command : List ℕ) (words : List (List ℕ)) : Type 0 where
  pub not_all : All IsUtf8 (items_of command) → ⊥
  pub none : words ≡ []

-- The words of a command line are separated by single blanks, as `synth`, `--max` and `3` in "synth --max 3".
abbrev pub AreWords : List ℕ → List (List ℕ) → Type 0
AreWords command words = (words ≡ items_of command) ⊎ IsNoText command words

-- a source or a sink in memory, with these bytes and so many failed calls
abbrev pub holding : List ℕ → ℕ → PortState
holding bytes faults = record { bytes = Some bytes; faults = faults }

-- what a caller sees of a run whose source never fails, and whose sinks failed so often
abbrev pub memory_run : List (List ℕ) → List ℕ → List ℕ → List ℕ → ℕ → List ℕ → ℕ → Status → Run
memory_run words input left output output_faults notes notes_faults status = run_of words
    (holding input 0, holding left 0)
    (holding [] 0, holding output output_faults)
    (holding [] 0, holding notes notes_faults) status

-- A run with the words of `command`, whose source held the input: no call of the source or of a sink failed, and it kept
-- what is promised.
pub record HasRun (Promised : Run → Type 0) (command input output notes : List ℕ) (status : Status) : Type 0 where
  pub words : List (List ℕ)
  pub are_words : AreWords command words
  pub left : List ℕ
  pub keeps : Promised (memory_run words input left output 0 notes 0 status)

-- The same where calls of a sink failed, which they do where memory for the output or for the notes couldn't be had;
-- this is the status, whatever the run's own status was.
pub record HasLackedRoom (Promised : Run → Type 0) (command input output notes : List ℕ) (status : Status) : Type 0 where
  pub words : List (List ℕ)
  pub are_words : AreWords command words
  pub left : List ℕ
  pub output_faults : ℕ
  pub notes_faults : ℕ
  pub failed : 0 < output_faults + notes_faults
  pub ended : Status
  pub keeps : Promised (memory_run words input left output output_faults notes notes_faults ended)
  pub status_is : status ≡ WriteFault

-- Memory ran out before the run, and nothing was written.
pub record HasNotRun (output notes : List ℕ) (status : Status) : Type 0 where
  pub status_is : status ≡ Memory
  pub no_output : output ≡ []
  pub no_notes : notes ≡ []

abbrev pub IsCalled : (Run → Type 0) → List ℕ → List ℕ → List ℕ → List ℕ → Status → Type 0
IsCalled Promised command input output notes status = HasRun Promised command input output notes status ⊎
    (HasLackedRoom Promised command input output notes status ⊎ HasNotRun output notes status)

-- If the text fits, it is at the start of the buffer, and otherwise the buffer is unchanged.
pub record IsPut (text old new : List ℕ) : Type 0 where
  pub fits : length text ≤ length old → new ≡ text ++ drop (length text) old
  pub beyond : length old < length text → new ≡ old

-- a sink to which nothing was written yet, and whose calls fail only where memory runs out
abbrev pub empty_sink : Store
empty_sink = record { written = []; schedule = first_schedule [] }

-- A call made an output and notes, as `IsCalled` says; its result has the status and the lengths of both, and the
-- buffers have them if they fit.
pub record IsAnsweredBy (Promised : Run → Type 0) (command input output output' notes notes' : List ℕ)
    (status output_length notes_length : ℕ) : Type 0 where
  pub out : List ℕ
  pub note : List ℕ
  pub ended : Status
  pub called : IsCalled Promised command input out note ended
  pub status_is : status ≡ number_of ended
  pub output_is : output_length ≡ length out
  pub notes_is : notes_length ≡ length note
  pub on_output : IsPut out output output'
  pub on_notes : IsPut note notes notes'

-- the promises of the program
abbrev pub IsAnswered : List ℕ → List ℕ → List ℕ → List ℕ → List ℕ → List ℕ → ℕ → ℕ → ℕ → Type 0
IsAnswered = IsAnsweredBy KeepsPromises

-- those of a comparison with a first text
abbrev pub IsPairAnswered : List ℕ → List ℕ → List ℕ → List ℕ → List ℕ → List ℕ → List ℕ → ℕ → ℕ → ℕ → Type 0
IsPairAnswered command first second output output' notes notes' status output_length notes_length =
    IsAnsweredBy (KeepsPair first) command second output output' notes notes' status output_length notes_length
