-- What a caller of the library can rely on, in terms of the texts and the status that a call gives.
use Rattle.std.specs.Prelude.{◌≡◌, ℕ, ◌⊎◌, List, [], Option, Some, None, All}
use Rattle.std.specs.Str.{IsUtf8}
use Rattle.text_core.specs.Items.{items_of}
use Rattle.command_line.specs.declared.command.Command.{Command}
use Rattle.command_line.specs.declared.command.Command.TheVariants.{Equiv}
use Rattle.command_line.specs.CommandLine.{AsksFor}
use Rattle.frame_core.specs.declared.status.Status.{Status}
use Rattle.frame_core.specs.declared.status.Status.TheVariants.{Usage}
use Rattle.frame_core.specs.Statuses.{number_of}
use Rattle.frame_core.specs.Reported.{Reply, Refusal, Field, error_line, usage, memory}
use Rattle.frame_core.specs.Task.{Task}
use Rattle.frame_core.specs.Run.{Run, HasInput}
use Rattle.frame_core.specs.Promise.{AllSteady}
use Rattle.chain_app.specs.Tasks.{task_of}
use Rattle.chain_app.specs.KeepsPromises.{KeepsPromises}
use Rattle.chain_app.specs.Pair.{KeepsPair}
use Rattle.batsokemi_c.specs.Called.{memory_run, HasRun}

-- The run kept what is promised, and no call failed at all: each clause of the promises applies to it.
pub record HasSteadyRunBy (Promised : Run → Type 0) (command input output notes : List ℕ) (status : Status) : Type 0 where
  pub run : HasRun Promised command input output notes status
  pub steady : AllSteady (memory_run run.words input run.left output 0 notes 0 status)

-- a run of the program, and one of a comparison with a first text
abbrev pub HasSteadyRun : List ℕ → List ℕ → List ℕ → List ℕ → Status → Type 0
HasSteadyRun = HasSteadyRunBy KeepsPromises

abbrev pub HasSteadyPair : List ℕ → List ℕ → List ℕ → List ℕ → List ℕ → Status → Type 0
HasSteadyPair command first second output notes status = HasSteadyRunBy (KeepsPair first) command second output notes status

-- The words are those of a command, and the bytes are its input: none for a command that reads nothing.
pub record Asks (command input : List ℕ) (asked : Command) (bytes : List ℕ) : Type 0 where
  pub text : All IsUtf8 (items_of command)
  pub words : AsksFor (items_of command) asked
  pub holds : HasInput (task_of asked).reads (Some input) bytes

-- The words are those of a comparison with this budget.
pub record AsksToCompare (command : List ℕ) (budget : ℕ) : Type 0 where
  pub text : All IsUtf8 (items_of command)
  pub words : AsksFor (items_of command) (Equiv budget)

-- words that ask for nothing
abbrev pub usage_refusal : Refusal
usage_refusal = record { status = Usage; named = usage }

abbrev pub report_of : Option (List ℕ) → List ℕ
report_of None = []
report_of (Some text) = text

-- The output and the notes are those of a reply, and the status is its status.
pub record AreReply (output notes : List ℕ) (status : ℕ) (reply : Reply) : Type 0 where
  pub status_is : status ≡ number_of reply.status
  pub output_is : output ≡ reply.text
  pub notes_are : notes ≡ report_of reply.report

-- The bytes have an answer of the task, and this is the reply to it.
pub record AnswersWith (task : Task) (bytes output notes : List ℕ) (status : ℕ) : Type 0 where
  pub answer : task.Answer
  pub has : task.Has bytes answer
  pub gives : AreReply output notes status (task.reply answer)

-- There is no output, the notes are the error line of a refusal, and the status is its status.
pub record AreRefusal (output notes : List ℕ) (status : ℕ) (refusal : Refusal) : Type 0 where
  pub status_is : status ≡ number_of refusal.status
  pub output_is : output ≡ []
  pub notes_are : notes ≡ error_line refusal.named

-- There is no output, and the notes are an error line.
pub record AreErrorLine (output notes : List ℕ) : Type 0 where
  pub fields : List Field
  pub output_is : output ≡ []
  pub notes_are : notes ≡ error_line fields

-- The notes are the error line of memory; or nothing was written at all.
abbrev pub TellsMemory : List ℕ → List ℕ → Type 0
TellsMemory output notes = (notes ≡ error_line memory) ⊎ ((output ≡ []) × (notes ≡ []))
