-- What a command does with its input, and what running it does.
use Rattle.std.specs.Prelude.{◌≡◌, ℕ, ◌≤◌, true, List, Result, Ok, Err}
use Rattle.port_io.specs.Bytes.{Appends, AppendsPrefix}
use Rattle.port_io.specs.Faults.{Rose}
use Rattle.frame_core.specs.declared.replies.Reply.{Reply}
use Rattle.frame_core.specs.declared.replies.Stop.{Stop}
use Rattle.frame_core.specs.declared.replies.Stop.TheVariants as stops
use Rattle.frame_core.specs.declared.replies.RunEnd.{RunEnd}
use Rattle.frame_core.specs.Outside.{PortState, IsFaultless}
use Rattle.frame_core.specs.Reported as reported
use Rattle.frame_core.specs.Task.{Task, HasReply, Refuses}
use Rattle.frame_core.specs.Run.{Outcome, ReadFault, TooLong, Memory, Answered, Truncated, OutOfMemoryMidway, ReportTruncated, NoAnswer, IsOutcome, SourceAfter, OutAfter, ReportAfter}
use Rattle.frame_core.specs.Views.{reply_value, refusal_value, Ends}

-- The outcome fits the bytes that were judged.
abbrev pub IsJudged : Task → List ℕ → Outcome → Type 0
IsJudged task bytes ReadFault = ⊥
IsJudged task bytes TooLong = ⊥
IsJudged task bytes Memory = Unit {0}
IsJudged task bytes (Answered reply) = HasReply task bytes reply
IsJudged task bytes Truncated = Unit {0}
IsJudged task bytes OutOfMemoryMidway = task.in_pieces ≡ true
IsJudged task bytes (ReportTruncated reply) = HasReply task bytes reply
IsJudged task bytes (NoAnswer refusal) = Refuses task bytes refusal

-- A command answered these bytes: it ended with an outcome, and wrote what belongs to that outcome.
pub record Answers (task : Task) (bytes : List ℕ) (e : RunEnd) (out note : PortState × PortState) : Type 0 where
  pub outcome : Outcome
  pub ends : Ends e outcome
  pub judged : IsJudged task bytes outcome
  pub on_out : OutAfter task bytes out.0 out.1 outcome
  pub on_note : ReportAfter note.0 note.1 outcome
  pub never_falls : note.0.faults ≤ note.1.faults

-- A command ran, up to the error line.
pub record Performs (task : Task) (e : RunEnd) (source out note : PortState × PortState) : Type 0 where
  pub outcome : Outcome
  pub ends : Ends e outcome
  pub bytes : List ℕ
  pub judged : IsOutcome task source.0.bytes bytes outcome
  pub on_source : SourceAfter task.reads source.0 source.1 outcome
  pub on_out : OutAfter task bytes out.0 out.1 outcome
  pub on_note : ReportAfter note.0 note.1 outcome
  pub never_falls : note.0.faults ≤ note.1.faults

-- ---- writing a reply

-- The run ends with this reply, whole or truncated.
abbrev pub IsSent : reported.Reply → Outcome → Type 0
IsSent reply (Answered sent) = sent ≡ reply
IsSent reply Truncated = Unit {0}
IsSent reply (ReportTruncated sent) = sent ≡ reply
IsSent reply outcome = ⊥

-- Its text was written to the output, or a prefix of it if the output failed.
abbrev pub OutSent : List ℕ → PortState → PortState → Outcome → Type 0
OutSent text old new Truncated = AppendsPrefix old.bytes new.bytes text × Rose old.faults new.faults
OutSent text old new outcome = Appends old.bytes new.bytes text × IsFaultless old new

pub record Sent (reply : reported.Reply) (e : RunEnd) (out note : PortState × PortState) : Type 0 where
  pub outcome : Outcome
  pub ends : Ends e outcome
  pub is : IsSent reply outcome
  pub on_out : OutSent reply.text out.0 out.1 outcome
  pub on_note : ReportAfter note.0 note.1 outcome
  pub never_falls : note.0.faults ≤ note.1.faults

-- Nothing was written, and this is the outcome.
pub record Withheld (outcome : Outcome) (e : RunEnd) (out note : PortState × PortState) : Type 0 where
  pub ends : Ends e outcome
  pub on_out : out.1 ≡ out.0
  pub on_note : note.1 ≡ note.0

-- A reply was written, or there was none.
abbrev pub Finishes : Result Reply Stop → RunEnd → PortState × PortState → PortState × PortState → Type 0
Finishes (Ok reply) e out note = Sent (reply_value reply) e out note
Finishes (Err stops.NoMemory) e out note = Withheld Memory e out note
Finishes (Err (stops.NoAnswer refusal)) e out note = Withheld (NoAnswer (refusal_value refusal)) e out note
