-- The outcomes of runs, for every command, and what a caller sees of them.
use Rattle.std.specs.Prelude.{◌≡◌, ℕ, ◌≤◌, true, List, [], Option, Some, None}
use Rattle.port_io.specs.Bytes.{Appends, AppendsPrefix}
use Rattle.port_io.specs.Faults.{Rose}
use Rattle.frame_core.specs.declared.status.Status.{Status}
use Rattle.frame_core.specs.declared.status.Status.TheVariants as statuses
use Rattle.frame_core.specs.Outside.{PortState, port_state, IsFaultless, Writes}
use Rattle.frame_core.specs.Reported.{Reply, Field, Refusal, error_line, read_fault, write_fault, too_long, memory}
use Rattle.frame_core.specs.Task.{Task, MayBeLeft, HasReply, Refuses, IsBeyond}

-- How the run of a command ends: the source failed; it had more bytes than are read; memory ran out before
-- anything was written; the reply was written whole; the output failed while its text was written; memory ran
-- out while the text was written in pieces; the notes failed while its report was written; there is no answer.
pub data Outcome : Type 0 where
  ReadFault : Outcome
  TooLong : Outcome
  Memory : Outcome
  Answered : (reply : Reply) → Outcome
  Truncated : Outcome
  OutOfMemoryMidway : Outcome
  ReportTruncated : (reply : Reply) → Outcome
  NoAnswer : (refusal : Refusal) → Outcome

abbrev pub status_of : Outcome → Status
status_of ReadFault = statuses.ReadFault
status_of TooLong = statuses.Limit
status_of Memory = statuses.Memory
status_of (Answered reply) = reply.status
status_of Truncated = statuses.WriteFault
status_of OutOfMemoryMidway = statuses.Memory
status_of (ReportTruncated reply) = statuses.WriteFault
status_of (NoAnswer refusal) = refusal.status

-- the content of the error line; None if the reply was written whole
abbrev pub line_of : Outcome → Option (List Field)
line_of ReadFault = Some read_fault
line_of TooLong = Some too_long
line_of Memory = Some memory
line_of (Answered reply) = None
line_of Truncated = Some write_fault
line_of OutOfMemoryMidway = Some memory
line_of (ReportTruncated reply) = Some write_fault
line_of (NoAnswer refusal) = Some refusal.named

-- if the bytes of the source are known, `bytes` are all of them
abbrev pub IsWhole : Option (List ℕ) → List ℕ → Type 0
IsWhole left bytes = (input : List ℕ) → left ≡ Some input → bytes ≡ input

-- the bytes that a command judged: what was read, and the empty list if it reads nothing
abbrev pub IsInput : Option ℕ → Option (List ℕ) → List ℕ → Type 0
IsInput None left bytes = bytes ≡ []
IsInput (Some most) left bytes = IsWhole left bytes

-- The input is known: the source held it, or the command reads nothing and it is empty.
abbrev pub HasInput : Option ℕ → Option (List ℕ) → List ℕ → Type 0
HasInput None left input = input ≡ []
HasInput (Some most) left input = left ≡ Some input

-- A truncated text was written, one that is allowed for these bytes.
pub record IsTruncatedOutput (task : Task) (bytes : List ℕ) (old new : PortState) : Type 0 where
  pub prefix : List ℕ
  pub leaves : MayBeLeft task bytes prefix
  pub on_out : Appends old.bytes new.bytes prefix

-- The outcome fits the bytes that were judged.
abbrev pub IsOutcome : Task → Option (List ℕ) → List ℕ → Outcome → Type 0
IsOutcome task left bytes ReadFault = Unit {0}
IsOutcome task left bytes TooLong = (input : List ℕ) → HasInput task.reads left input → IsBeyond task.reads input
IsOutcome task left bytes Memory = Unit {0}
IsOutcome task left bytes (Answered reply) = IsInput task.reads left bytes × HasReply task bytes reply
IsOutcome task left bytes Truncated = IsInput task.reads left bytes
IsOutcome task left bytes OutOfMemoryMidway = IsInput task.reads left bytes × (task.in_pieces ≡ true)
IsOutcome task left bytes (ReportTruncated reply) = IsInput task.reads left bytes × HasReply task bytes reply
IsOutcome task left bytes (NoAnswer refusal) = IsInput task.reads left bytes × Refuses task bytes refusal

-- The source was read to its end, and no call failed.
pub record IsReadToEnd (old new : PortState) : Type 0 where
  pub end : (input : List ℕ) → old.bytes ≡ Some input → new.bytes ≡ Some []
  pub faultless : IsFaultless old new

-- An input that is judged was read to its end. If a call failed, that is the outcome.
abbrev pub SourceRead : PortState → PortState → Outcome → Type 0
SourceRead old new ReadFault = Rose old.faults new.faults
SourceRead old new TooLong = IsFaultless old new
SourceRead old new Memory = IsFaultless old new
SourceRead old new (Answered reply) = IsReadToEnd old new
SourceRead old new Truncated = IsReadToEnd old new
SourceRead old new OutOfMemoryMidway = IsReadToEnd old new
SourceRead old new (ReportTruncated reply) = IsReadToEnd old new
SourceRead old new (NoAnswer refusal) = IsReadToEnd old new

-- A source that isn't read can't fail or be too long.
abbrev pub SourceLeft : PortState → PortState → Outcome → Type 0
SourceLeft old new ReadFault = ⊥
SourceLeft old new TooLong = ⊥
SourceLeft old new outcome = new ≡ old

abbrev pub SourceAfter : Option ℕ → PortState → PortState → Outcome → Type 0
SourceAfter None old new outcome = SourceLeft old new outcome
SourceAfter (Some most) old new outcome = SourceRead old new outcome

-- The reply's text was written whole, or a prefix of one if the output failed or memory ran out. With every other
-- outcome the output is as before. If a call failed, that is the outcome.
abbrev pub OutAfter : Task → List ℕ → PortState → PortState → Outcome → Type 0
OutAfter task bytes old new ReadFault = new ≡ old
OutAfter task bytes old new TooLong = new ≡ old
OutAfter task bytes old new Memory = new ≡ old
OutAfter task bytes old new (Answered reply) = Appends old.bytes new.bytes reply.text × IsFaultless old new
OutAfter task bytes old new Truncated = IsTruncatedOutput task bytes old new × Rose old.faults new.faults
OutAfter task bytes old new OutOfMemoryMidway = IsTruncatedOutput task bytes old new × IsFaultless old new
OutAfter task bytes old new (ReportTruncated reply) = Appends old.bytes new.bytes reply.text × IsFaultless old new
OutAfter task bytes old new (NoAnswer refusal) = new ≡ old

-- A whole report was written to the notes (`Reports`), or a prefix of it (`ReportsPrefix`). Without a report they
-- are as before.
abbrev pub Reports : PortState → PortState → Option (List ℕ) → Type 0
Reports old new None = new ≡ old
Reports old new (Some text) = Appends old.bytes new.bytes text

abbrev pub ReportsPrefix : PortState → PortState → Option (List ℕ) → Type 0
ReportsPrefix old new None = ⊥
ReportsPrefix old new (Some text) = AppendsPrefix old.bytes new.bytes text × Rose old.faults new.faults

abbrev pub ReportAfter : PortState → PortState → Outcome → Type 0
ReportAfter old new (Answered reply) = Reports old new reply.report × IsFaultless old new
ReportAfter old new (ReportTruncated reply) = ReportsPrefix old new reply.report
ReportAfter old new outcome = new ≡ old

-- the error line after the report, if there is one
abbrev pub LineAfter : PortState → PortState → Option (List Field) → Type 0
LineAfter old new None = new ≡ old
LineAfter old new (Some fields) = Writes old new (error_line fields)

-- The report, and then the error line. The count of faults never falls.
pub record NoteAfter (old new : PortState) (outcome : Outcome) : Type 0 where
  pub between : PortState
  pub report : ReportAfter old between outcome
  pub line : LineAfter between new (line_of outcome)
  pub first : old.faults ≤ between.faults
  pub then : between.faults ≤ new.faults

-- ---- runs

-- what a caller sees of a run: the arguments, the status, and each source and sink before and after it
pub record Run : Type 0 where
  pub words : List (List ℕ)
  pub source : PortState
  pub source' : PortState
  pub out : PortState
  pub out' : PortState
  pub note : PortState
  pub note' : PortState
  pub status : Status

-- a source or a sink before and after
abbrev pub before_after : {T : Type 0} → (T → Option (List ℕ)) → (T → ℕ) → T → T → PortState × PortState
before_after bytes faults old new = (port_state bytes faults old, port_state bytes faults new)

-- a run with these arguments
abbrev pub run_of : List (List ℕ) → PortState × PortState → PortState × PortState → PortState × PortState → Status → Run
run_of words source out note status = record {
  words = words;
  source = source.0;
  source' = source.1;
  out = out.0;
  out' = out.1;
  note = note.0;
  note' = note.1;
  status = status;
}

-- A run of a command had this outcome, which determines what its caller sees.
pub record IsRun (task : Task) (r : Run) (outcome : Outcome) : Type 0 where
  pub bytes : List ℕ
  pub judged : IsOutcome task r.source.bytes bytes outcome
  pub status_is : r.status ≡ status_of outcome
  pub on_source : SourceAfter task.reads r.source r.source' outcome
  pub on_out : OutAfter task bytes r.out r.out' outcome
  pub on_note : NoteAfter r.note r.note' outcome
