-- The promise of every command, for every source and every sink.
use Rattle.std.specs.Prelude.{◌≡◌, ◌≢◌, ℕ, ◌<◌, ◌≤◌, ◌⊎◌, List, [], length, true, false, Some, None}
use Rattle.port_io.specs.Bytes.{Appends}
use Rattle.port_io.specs.Faults.{Rose}
use Rattle.frame_core.specs.declared.status.Status.TheVariants.{Done, Malformed, Limit, Undecided, ReadFault}
use Rattle.frame_core.specs.declared.status.Status.TheVariants.{WriteFault, Memory, Refused}
use Rattle.frame_core.specs.Outside.{PortState, IsFaultless, Writes}
use Rattle.frame_core.specs.Reported.{Reply, Refusal, error_line, write_fault, memory, too_long_refusal}
use Rattle.frame_core.specs.Reported.{read_fault_refusal, memory_refusal}
use Rattle.frame_core.specs.Task.{Task, MayBeLeft, HasNoReport, IsBeyond, IsAnswerable}
use Rattle.frame_core.specs.Run.{Run, IsInput, HasInput, Reports, ReportsPrefix}

-- ---- what didn't fail

-- No call on it failed: its count of faults didn't rise.
abbrev pub IsSteady : PortState → PortState → Type 0
IsSteady old new = Rose old.faults new.faults → ⊥

-- No call of the source failed, and memory didn't run out.
pub record InputHeld (r : Run) : Type 0 where
  pub source : IsSteady r.source r.source'
  pub memory : r.status ≢ Memory

-- Nor did a call of the output fail.
pub record OutputHeld (r : Run) : Type 0 where
  pub input : InputHeld r
  pub out : IsSteady r.out r.out'

-- Nor did a call of the notes fail: no call failed at all.
pub record AllSteady (r : Run) : Type 0 where
  pub output : OutputHeld r
  pub note : IsSteady r.note r.note'

-- ---- what a caller sees

-- The whole reply was written and nothing else, and no call of the sinks failed.
pub record Stands (r : Run) (reply : Reply) : Type 0 where
  pub status_is : r.status ≡ reply.status
  pub on_out : Appends r.out.bytes r.out'.bytes reply.text
  pub on_note : Reports r.note r.note' reply.report
  pub out_faultless : IsFaultless r.out r.out'
  pub note_faultless : IsFaultless r.note r.note'

-- The output is as before, and the error is reported.
pub record ReportsError (r : Run) (refusal : Refusal) : Type 0 where
  pub status_is : r.status ≡ refusal.status
  pub on_out : r.out' ≡ r.out
  pub on_note : Writes r.note r.note' (error_line refusal.named)

-- The input has an answer, which was written whole.
pub record Replies (task : Task) (r : Run) (input : List ℕ) : Type 0 where
  pub answer : task.Answer
  pub has : task.Has input answer
  pub stands : Stands r (task.reply answer)

-- The input has a fault, which is reported.
pub record Faults (task : Task) (r : Run) (input : List ℕ) : Type 0 where
  pub fault : task.Fault
  pub meets : task.Meets input fault
  pub reported : ReportsError r (task.refusal fault)

-- The output failed while the text of an answer was written: a prefix of it is there, and the failure is reported.
pub record ReplyTruncated (task : Task) (r : Run) (input : List ℕ) : Type 0 where
  pub prefix : List ℕ
  pub leaves : MayBeLeft task input prefix
  pub on_out : Appends r.out.bytes r.out'.bytes prefix
  pub rose : Rose r.out.faults r.out'.faults
  pub on_note : Writes r.note r.note' (error_line write_fault)

-- The notes failed while the report of an answer was written: its whole text is on the output, a prefix of the
-- report is on the notes, and then the failure is reported.
pub record ReportTruncated (task : Task) (r : Run) (input : List ℕ) : Type 0 where
  pub answer : task.Answer
  pub has : task.Has input answer
  pub status_is : r.status ≡ WriteFault
  pub on_out : Appends r.out.bytes r.out'.bytes (task.reply answer).text
  pub out_faultless : IsFaultless r.out r.out'
  pub rose : Rose r.note.faults r.note'.faults
  pub between : PortState
  pub prefix : ReportsPrefix r.note between (task.reply answer).report
  pub line : Writes between r.note' (error_line write_fault)
  pub first : r.note.faults ≤ between.faults
  pub then : between.faults ≤ r.note'.faults

-- Memory ran out while the text of an answer was written in pieces: a prefix of it is there, and this is reported.
pub record ReplyOutOfMemory (task : Task) (r : Run) (input : List ℕ) : Type 0 where
  pub in_pieces : task.in_pieces ≡ true
  pub prefix : List ℕ
  pub leaves : MayBeLeft task input prefix
  pub on_out : Appends r.out.bytes r.out'.bytes prefix
  pub out_faultless : IsFaultless r.out r.out'
  pub on_note : Writes r.note r.note' (error_line memory)

-- `Holds` holds for the bytes that the command judged: all bytes of the source, if they are known.
pub record OfInput (task : Task) (r : Run) (Holds : List ℕ → Type 0) : Type 0 where
  pub bytes : List ℕ
  pub are : IsInput task.reads r.source.bytes bytes
  pub holds : Holds bytes

-- The input is longer than the command reads, and this is reported.
pub record IsTooLong (task : Task) (r : Run) : Type 0 where
  pub beyond : (input : List ℕ) → HasInput task.reads r.source.bytes input → IsBeyond task.reads input
  pub reported : ReportsError r too_long_refusal

-- ---- the promise

pub record CommandPromise (task : Task) (r : Run) : Type 0 where
  -- If no call failed at all, an input without a fault gets its answer.
  pub complete : (input : List ℕ)
      → HasInput task.reads r.source.bytes input
      → IsAnswerable task input
      → AllSteady r
      → Replies task r input
  -- If no call failed except on the notes, it gets its answer, or the notes failed while its report was
  -- written.
  pub answered : (input : List ℕ)
      → HasInput task.reads r.source.bytes input
      → IsAnswerable task input
      → OutputHeld r
      → Replies task r input ⊎ ReportTruncated task r input
  -- The fault of an input is reported, and so is an input that is too long.
  pub refused : (input : List ℕ) (fault : task.Fault)
      → HasInput task.reads r.source.bytes input
      → task.Meets input fault
      → InputHeld r
      → ReportsError r (task.refusal fault)
  pub too_long : (input : List ℕ)
      → HasInput task.reads r.source.bytes input
      → IsBeyond task.reads input
      → InputHeld r
      → ReportsError r too_long_refusal
  -- Each status has its own cause.
  pub done_only : r.status ≡ Done → OfInput task r (Replies task r)
  pub undecided_only : r.status ≡ Undecided → OfInput task r (Replies task r)
  pub refused_only : r.status ≡ Refused → OfInput task r (λ input. Replies task r input ⊎ Faults task r input)
  pub malformed_only : r.status ≡ Malformed → OfInput task r (Faults task r)
  pub limit_only : r.status ≡ Limit → OfInput task r (Faults task r) ⊎ IsTooLong task r
  pub read_fault_only : r.status ≡ ReadFault → Rose r.source.faults r.source'.faults × ReportsError r read_fault_refusal
  pub write_fault_only : r.status ≡ WriteFault →
      OfInput task r (λ input. ReplyTruncated task r input ⊎ ReportTruncated task r input)
  pub write_rose : r.status ≡ WriteFault → Rose r.out.faults r.out'.faults ⊎ Rose r.note.faults r.note'.faults
  pub memory_only : r.status ≡ Memory → ReportsError r memory_refusal ⊎ OfInput task r (ReplyOutOfMemory task r)
  -- If a call of the source or of the output failed, the status says so. For the notes `answered` and
  -- `write_fault_only` say it: a reply isn't whole without its report.
  pub read_failed : r.source.faults < r.source'.faults → r.status ≡ ReadFault
  pub write_failed : r.out.faults < r.out'.faults → r.status ≡ WriteFault
  -- A command without a report never ends with a failure of the notes.
  pub out_rose : HasNoReport task → r.status ≡ WriteFault → Rose r.out.faults r.out'.faults
  -- Without an answer the output is as before.
  pub unchanged : r.status ≢ Done
      → r.status ≢ Undecided
      → r.status ≢ Refused
      → r.status ≢ WriteFault
      → (r.status ≡ Memory → task.in_pieces ≡ false)
      → r.out' ≡ r.out
  -- The input was read to its end, whatever is reported, unless it is too long.
  pub read_to_end : (most : ℕ) (input : List ℕ)
      → task.reads ≡ Some most
      → r.source.bytes ≡ Some input
      → (r.status ≡ Limit → most < length input → ⊥)
      → r.status ≢ ReadFault
      → r.status ≢ Memory
      → r.source'.bytes ≡ Some []
  -- Nothing is written before the input was read to its end.
  pub unread : (most : ℕ) (input : List ℕ)
      → task.reads ≡ Some most
      → r.source.bytes ≡ Some input
      → (r.source'.bytes ≡ Some [] → ⊥)
      → r.out' ≡ r.out
  -- A command that reads nothing never calls its source, and never reports a read fault.
  pub untouched : task.reads ≡ None → r.source' ≡ r.source
  pub never_read : task.reads ≡ None → r.status ≢ ReadFault
