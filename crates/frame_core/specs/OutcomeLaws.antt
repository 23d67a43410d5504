-- What a run with each outcome wrote and reported, and which outcomes have a status.
use Rattle.std.specs.Prelude.{◌≡◌, ℕ, ◌≤◌, ◌⊎◌, List, Option, Some, None}
use Rattle.std.proofs.Common.{sym, ◌∙◌, ap, subst, inl, inr}
use Rattle.std.proofs.Math.Logic.{⊎_elim}
use Rattle.port_io.specs.Bytes.{Appends}
use Rattle.port_io.specs.Faults.{Rose}
use Rattle.port_io.specs.CountLaws.{rose_later}
use Rattle.frame_core.specs.declared.status.Status.{Status}
use Rattle.frame_core.specs.declared.status.Status.TheVariants as statuses
use Rattle.frame_core.specs.Outside.{PortState, IsFaultless, Writes}
use Rattle.frame_core.specs.Reported.{Reply, Refusal, error_line, read_fault, write_fault, too_long, memory, too_long_refusal, read_fault_refusal, memory_refusal}
use Rattle.frame_core.specs.Task.{Task, HasReply, Refuses, HasNoReport, IsRefusalStatus, IsTask}
use Rattle.frame_core.specs.Run.{Outcome, ReadFault, TooLong, Memory, Answered, Truncated, OutOfMemoryMidway}
use Rattle.frame_core.specs.Run.{ReportTruncated, NoAnswer, status_of, Run, IsRun, IsInput, HasInput, SourceAfter}
use Rattle.frame_core.specs.Run.{Reports, ReportsPrefix}
use Rattle.frame_core.specs.Promise.{Stands, ReportsError, Replies, Faults}
use Rattle.frame_core.specs.Promise.{ReplyTruncated, ReportTruncated as TruncatedReport, ReplyOutOfMemory, OfInput}
use Rattle.frame_core.specs.Promise.{IsTooLong}

-- ---- the input

-- the bytes that were judged are the input
pub input_is : (reads : Option ℕ) (left : Option (List ℕ)) (bytes input : List ℕ) → IsInput reads left bytes → HasInput reads left input → bytes ≡ input
input_is None left bytes input are reported = are ∙ sym reported
input_is (Some most) left bytes input are reported = are input reported

-- what holds for them holds for the input
pub of_input : (task : Task) (r : Run) (Holds : List ℕ → Type 0) (input : List ℕ) → OfInput task r Holds → HasInput task.reads r.source.bytes input → Holds input
of_input task r Holds input of reported = subst Holds (input_is task.reads r.source.bytes of.bytes input of.are reported) of.holds

-- ---- each outcome

-- what was written to the notes if no report was
line_alone : (old between new : PortState) (text : List ℕ) → between ≡ old → Writes between new text → Writes old new text
line_alone old between new text same writes = subst (λ (s : PortState). Writes s new text) same writes

-- the whole reply was written if the input has an answer
pub replies : (task : Task) (r : Run) (reply : Reply) → IsRun task r (Answered reply) → OfInput task r (Replies task r)
replies task r reply run =
    let replied : HasReply task run.bytes reply = run.judged.1 in
    let here : Stands r reply = record {
      status_is = run.status_is;
      on_out = run.on_out.0;
      on_note = subst (λ (s : PortState). Reports r.note s reply.report) (sym run.on_note.line) run.on_note.report.0;
      out_faultless = run.on_out.1;
      note_faultless = subst (λ (s : PortState). IsFaultless r.note s) (sym run.on_note.line) run.on_note.report.1;
    } in
    record {
      bytes = run.bytes;
      are = run.judged.0;
      holds = record { answer = replied.answer; has = replied.has; stands = subst (λ (x : Reply). Stands r x) replied.is here };
    }

pub reply_truncated : (task : Task) (r : Run) → IsRun task r Truncated → OfInput task r (ReplyTruncated task r)
reply_truncated task r run = record {
  bytes = run.bytes;
  are = run.judged;
  holds = record {
    prefix = run.on_out.0.prefix;
    leaves = run.on_out.0.leaves;
    on_out = run.on_out.0.on_out;
    rose = run.on_out.1;
    on_note = line_alone r.note run.on_note.between r.note' (error_line write_fault) run.on_note.report run.on_note.line;
  };
}

out_of_memory : (task : Task) (r : Run) → IsRun task r OutOfMemoryMidway → OfInput task r (ReplyOutOfMemory task r)
out_of_memory task r run = record {
  bytes = run.bytes;
  are = run.judged.0;
  holds = record {
    in_pieces = run.judged.1;
    prefix = run.on_out.0.prefix;
    leaves = run.on_out.0.leaves;
    on_out = run.on_out.0.on_out;
    out_faultless = run.on_out.1;
    on_note = line_alone r.note run.on_note.between r.note' (error_line memory) run.on_note.report run.on_note.line;
  };
}

-- if a report is truncated, the notes failed
report_rose : (old between new : PortState) (report : Option (List ℕ)) → old.faults ≤ between.faults → ReportsPrefix old between report → between.faults ≤ new.faults → Rose old.faults new.faults
report_rose old between new None first prefix then = absurd prefix
report_rose old between new (Some text) first prefix then = rose_later old.faults between.faults new.faults first prefix.1 then

pub report_truncated : (task : Task) (r : Run) (reply : Reply) → IsRun task r (ReportTruncated reply) → OfInput task r (TruncatedReport task r)
report_truncated task r reply run =
    let replied : HasReply task run.bytes reply = run.judged.1 in
    record {
      bytes = run.bytes;
      are = run.judged.0;
      holds = record {
        answer = replied.answer;
        has = replied.has;
        status_is = run.status_is;
        on_out = subst (λ (x : Reply). Appends r.out.bytes r.out'.bytes x.text) replied.is run.on_out.0;
        out_faultless = run.on_out.1;
        rose = report_rose r.note run.on_note.between r.note' reply.report run.on_note.first run.on_note.report run.on_note.then;
        between = run.on_note.between;
        prefix = subst (λ (x : Reply). ReportsPrefix r.note run.on_note.between x.report) replied.is run.on_note.report;
        line = run.on_note.line;
        first = run.on_note.first;
        then = run.on_note.then;
      };
    }

reports_error : (task : Task) (r : Run) (refusal : Refusal) → IsRun task r (NoAnswer refusal) → ReportsError r refusal
reports_error task r refusal run = record {
  status_is = run.status_is;
  on_out = run.on_out;
  on_note = line_alone r.note run.on_note.between r.note' (error_line refusal.named) run.on_note.report
      run.on_note.line;
}

pub faults : (task : Task) (r : Run) (refusal : Refusal) → IsRun task r (NoAnswer refusal) → OfInput task r (Faults task r)
faults task r refusal run =
    let refuses : Refuses task run.bytes refusal = run.judged.1 in
    record {
      bytes = run.bytes;
      are = run.judged.0;
      holds = record { fault = refuses.fault; meets = refuses.meets; reported = subst (λ (x : Refusal). ReportsError r x) refuses.is (reports_error task r refusal run) };
    }

pub long_reported : (task : Task) (r : Run) → IsRun task r TooLong → ReportsError r too_long_refusal
long_reported task r run = record { status_is = run.status_is; on_out = run.on_out; on_note = line_alone r.note run.on_note.between r.note' (error_line too_long) run.on_note.report run.on_note.line }

fault_reported : (task : Task) (r : Run) → IsRun task r ReadFault → ReportsError r read_fault_refusal
fault_reported task r run = record {
  status_is = run.status_is;
  on_out = run.on_out;
  on_note = line_alone r.note run.on_note.between r.note' (error_line read_fault) run.on_note.report run.on_note.line;
}

memory_reported : (task : Task) (r : Run) → IsRun task r Memory → ReportsError r memory_refusal
memory_reported task r run = record { status_is = run.status_is; on_out = run.on_out; on_note = line_alone r.note run.on_note.between r.note' (error_line memory) run.on_note.report run.on_note.line }

-- a read fault is a failed call of the source
pub source_rose : (reads : Option ℕ) (old new : PortState) → SourceAfter reads old new ReadFault → Rose old.faults new.faults
source_rose None old new after = absurd after
source_rose (Some most) old new after = after

-- ---- what a status says

-- an outcome doesn't have a status that isn't its own
pub apart : {A : Type 0} (task : Task) (r : Run) (o : Outcome) (s : Status) → IsRun task r o → r.status ≡ s → (status_of o ≡ s → ⊥) → A
apart task r o s run is other = absurd (other (sym run.status_is ∙ is))

-- nor does a reply or a refusal
pub no_reply : {A : Type 0} (task : Task) (r : Run) (reply : Reply) (s : Status) → IsTask task →
    IsRun task r (Answered reply) → r.status ≡ s → (statuses.Done ≡ s → ⊥) → (statuses.Undecided ≡ s → ⊥) →
    (statuses.Refused ≡ s → ⊥) → A
no_reply task r reply s is_task run is a b c =
    let replied : HasReply task run.bytes reply = run.judged.1 in
    let has : (task.reply replied.answer).status ≡ s = sym (ap (λ (x : Reply). x.status) replied.is) ∙ sym run.status_is ∙ is in
    absurd (⊎_elim (λ (e : (task.reply replied.answer).status ≡ statuses.Done). a (sym e ∙ has)) (λ rest.
    ⊎_elim (λ (e : (task.reply replied.answer).status ≡ statuses.Undecided). b (sym e ∙ has))
    (λ (e : (task.reply replied.answer).status ≡ statuses.Refused). c (sym e ∙ has)) rest)
    (is_task.replies replied.answer))

pub no_refusal : {A : Type 0} (task : Task) (r : Run) (refusal : Refusal) (s : Status) → IsTask task →
    IsRun task r (NoAnswer refusal) → r.status ≡ s → (statuses.Malformed ≡ s → ⊥) → (statuses.Limit ≡ s → ⊥) →
    (statuses.Refused ≡ s → ⊥) → (statuses.Memory ≡ s → ⊥) → A
no_refusal task r refusal s is_task run is a b c d =
    let refuses : Refuses task run.bytes refusal = run.judged.1 in
    let reported : Refusal = task.refusal refuses.fault in
    let has : reported.status ≡ s = sym (ap (λ (x : Refusal). x.status) refuses.is) ∙ sym run.status_is ∙ is in
    let of_status : IsRefusalStatus reported.status → ⊥ =
    λ status. ⊎_elim (λ (e : reported.status ≡ statuses.Malformed). a (sym e ∙ has)) (λ rest.
    ⊎_elim (λ (e : reported.status ≡ statuses.Limit). b (sym e ∙ has))
    (λ (e : reported.status ≡ statuses.Refused). c (sym e ∙ has)) rest) status in
    let of_memory : reported ≡ memory_refusal → ⊥ = λ same. d (sym (ap (λ (x : Refusal). x.status) same) ∙ has) in
    absurd (⊎_elim of_status of_memory (is_task.refusals run.bytes refuses.fault refuses.meets))

pub done_only : (task : Task) (r : Run) (o : Outcome) → IsTask task → IsRun task r o → r.status ≡ statuses.Done → OfInput task r (Replies task r)
done_only task r ReadFault is_task run is = apart task r ReadFault statuses.Done run is (λ e. cc)
done_only task r TooLong is_task run is = apart task r TooLong statuses.Done run is (λ e. cc)
done_only task r Memory is_task run is = apart task r Memory statuses.Done run is (λ e. cc)
done_only task r (Answered reply) is_task run is = replies task r reply run
done_only task r Truncated is_task run is = apart task r Truncated statuses.Done run is (λ e. cc)
done_only task r OutOfMemoryMidway is_task run is = apart task r OutOfMemoryMidway statuses.Done run is (λ e. cc)
done_only task r (ReportTruncated reply) is_task run is = apart task r (ReportTruncated reply) statuses.Done run is (λ e. cc)
done_only task r (NoAnswer refusal) is_task run is = no_refusal task r refusal statuses.Done is_task run is (λ e. cc) (λ e. cc) (λ e. cc) (λ e. cc)

pub undecided_only : (task : Task) (r : Run) (o : Outcome) → IsTask task → IsRun task r o → r.status ≡ statuses.Undecided → OfInput task r (Replies task r)
undecided_only task r ReadFault is_task run is = apart task r ReadFault statuses.Undecided run is (λ e. cc)
undecided_only task r TooLong is_task run is = apart task r TooLong statuses.Undecided run is (λ e. cc)
undecided_only task r Memory is_task run is = apart task r Memory statuses.Undecided run is (λ e. cc)
undecided_only task r (Answered reply) is_task run is = replies task r reply run
undecided_only task r Truncated is_task run is = apart task r Truncated statuses.Undecided run is (λ e. cc)
undecided_only task r OutOfMemoryMidway is_task run is = apart task r OutOfMemoryMidway statuses.Undecided run is (λ e. cc)
undecided_only task r (ReportTruncated reply) is_task run is = apart task r (ReportTruncated reply) statuses.Undecided run is (λ e. cc)
undecided_only task r (NoAnswer refusal) is_task run is = no_refusal task r refusal statuses.Undecided is_task run is (λ e. cc) (λ e. cc) (λ e. cc) (λ e. cc)

either_left : (task : Task) (r : Run) (P Q : List ℕ → Type 0) → OfInput task r P → OfInput task r (λ input. P input ⊎ Q input)
either_left task r P Q of = record { bytes = of.bytes; are = of.are; holds = inl of.holds }

either_right : (task : Task) (r : Run) (P Q : List ℕ → Type 0) → OfInput task r Q → OfInput task r (λ input. P input ⊎ Q input)
either_right task r P Q of = record { bytes = of.bytes; are = of.are; holds = inr of.holds }

pub refused_only : (task : Task) (r : Run) (o : Outcome) → IsTask task → IsRun task r o → r.status ≡ statuses.Refused → OfInput task r (λ input. Replies task r input ⊎ Faults task r input)
refused_only task r ReadFault is_task run is = apart task r ReadFault statuses.Refused run is (λ e. cc)
refused_only task r TooLong is_task run is = apart task r TooLong statuses.Refused run is (λ e. cc)
refused_only task r Memory is_task run is = apart task r Memory statuses.Refused run is (λ e. cc)
refused_only task r (Answered reply) is_task run is = either_left task r (Replies task r) (Faults task r) (replies task r reply run)
refused_only task r Truncated is_task run is = apart task r Truncated statuses.Refused run is (λ e. cc)
refused_only task r OutOfMemoryMidway is_task run is = apart task r OutOfMemoryMidway statuses.Refused run is (λ e. cc)
refused_only task r (ReportTruncated reply) is_task run is = apart task r (ReportTruncated reply) statuses.Refused run is (λ e. cc)
refused_only task r (NoAnswer refusal) is_task run is = either_right task r (Replies task r) (Faults task r) (faults task r refusal run)

pub malformed_only : (task : Task) (r : Run) (o : Outcome) → IsTask task → IsRun task r o → r.status ≡ statuses.Malformed → OfInput task r (Faults task r)
malformed_only task r ReadFault is_task run is = apart task r ReadFault statuses.Malformed run is (λ e. cc)
malformed_only task r TooLong is_task run is = apart task r TooLong statuses.Malformed run is (λ e. cc)
malformed_only task r Memory is_task run is = apart task r Memory statuses.Malformed run is (λ e. cc)
malformed_only task r (Answered reply) is_task run is = no_reply task r reply statuses.Malformed is_task run is (λ e. cc) (λ e. cc) (λ e. cc)
malformed_only task r Truncated is_task run is = apart task r Truncated statuses.Malformed run is (λ e. cc)
malformed_only task r OutOfMemoryMidway is_task run is = apart task r OutOfMemoryMidway statuses.Malformed run is (λ e. cc)
malformed_only task r (ReportTruncated reply) is_task run is = apart task r (ReportTruncated reply) statuses.Malformed run is (λ e. cc)
malformed_only task r (NoAnswer refusal) is_task run is = faults task r refusal run

pub limit_only : (task : Task) (r : Run) (o : Outcome) → IsTask task → IsRun task r o → r.status ≡ statuses.Limit → OfInput task r (Faults task r) ⊎ IsTooLong task r
limit_only task r ReadFault is_task run is = apart task r ReadFault statuses.Limit run is (λ e. cc)
limit_only task r TooLong is_task run is = inr (record { beyond = run.judged; reported = long_reported task r run })
limit_only task r Memory is_task run is = apart task r Memory statuses.Limit run is (λ e. cc)
limit_only task r (Answered reply) is_task run is = no_reply task r reply statuses.Limit is_task run is (λ e. cc) (λ e. cc) (λ e. cc)
limit_only task r Truncated is_task run is = apart task r Truncated statuses.Limit run is (λ e. cc)
limit_only task r OutOfMemoryMidway is_task run is = apart task r OutOfMemoryMidway statuses.Limit run is (λ e. cc)
limit_only task r (ReportTruncated reply) is_task run is = apart task r (ReportTruncated reply) statuses.Limit run is (λ e. cc)
limit_only task r (NoAnswer refusal) is_task run is = inl (faults task r refusal run)

pub write_fault_only : (task : Task) (r : Run) (o : Outcome) → IsTask task → IsRun task r o →
    r.status ≡ statuses.WriteFault → OfInput task r (λ input. ReplyTruncated task r input ⊎
    TruncatedReport task r input)
write_fault_only task r ReadFault is_task run is = apart task r ReadFault statuses.WriteFault run is (λ e. cc)
write_fault_only task r TooLong is_task run is = apart task r TooLong statuses.WriteFault run is (λ e. cc)
write_fault_only task r Memory is_task run is = apart task r Memory statuses.WriteFault run is (λ e. cc)
write_fault_only task r (Answered reply) is_task run is = no_reply task r reply statuses.WriteFault is_task run is (λ e. cc) (λ e. cc) (λ e. cc)
write_fault_only task r Truncated is_task run is = either_left task r (ReplyTruncated task r) (TruncatedReport task r) (reply_truncated task r run)
write_fault_only task r OutOfMemoryMidway is_task run is = apart task r OutOfMemoryMidway statuses.WriteFault run is (λ e. cc)
write_fault_only task r (ReportTruncated reply) is_task run is = either_right task r (ReplyTruncated task r) (TruncatedReport task r) (report_truncated task r reply run)
write_fault_only task r (NoAnswer refusal) is_task run is = no_refusal task r refusal statuses.WriteFault is_task run is (λ e. cc) (λ e. cc) (λ e. cc) (λ e. cc)

pub write_rose : (task : Task) (r : Run) (o : Outcome) → IsTask task → IsRun task r o → r.status ≡ statuses.WriteFault → Rose r.out.faults r.out'.faults ⊎ Rose r.note.faults r.note'.faults
write_rose task r o is_task run is =
    let of : OfInput task r (λ input. ReplyTruncated task r input ⊎ TruncatedReport task r input) = write_fault_only task r o is_task run is in
    ⊎_elim
    (λ (truncated : ReplyTruncated task r of.bytes). inl truncated.rose)
    (λ (truncated : TruncatedReport task r of.bytes). inr truncated.rose)
    of.holds

-- without a report a write fault is a failed call of the output
truncated_rose : (task : Task) (r : Run) (input : List ℕ) → HasNoReport task → ReplyTruncated task r input ⊎ TruncatedReport task r input → Rose r.out.faults r.out'.faults
truncated_rose task r input none truncated =
    ⊎_elim
    (λ (c : ReplyTruncated task r input). c.rose)
    (λ (c : TruncatedReport task r input). absurd (subst (λ (report : Option (List ℕ)). ReportsPrefix r.note c.between report) (none c.answer) c.prefix))
    truncated

pub out_rose : (task : Task) (r : Run) (o : Outcome) → IsTask task → IsRun task r o → HasNoReport task → r.status ≡ statuses.WriteFault → Rose r.out.faults r.out'.faults
out_rose task r o is_task run none is =
    let of : OfInput task r (λ input. ReplyTruncated task r input ⊎ TruncatedReport task r input) = write_fault_only task r o is_task run is in
    truncated_rose task r of.bytes none of.holds

pub read_fault_only : (task : Task) (r : Run) (o : Outcome) → IsTask task → IsRun task r o → r.status ≡ statuses.ReadFault → Rose r.source.faults r.source'.faults × ReportsError r read_fault_refusal
read_fault_only task r ReadFault is_task run is = (source_rose task.reads r.source r.source' run.on_source, fault_reported task r run)
read_fault_only task r TooLong is_task run is = apart task r TooLong statuses.ReadFault run is (λ e. cc)
read_fault_only task r Memory is_task run is = apart task r Memory statuses.ReadFault run is (λ e. cc)
read_fault_only task r (Answered reply) is_task run is = no_reply task r reply statuses.ReadFault is_task run is (λ e. cc) (λ e. cc) (λ e. cc)
read_fault_only task r Truncated is_task run is = apart task r Truncated statuses.ReadFault run is (λ e. cc)
read_fault_only task r OutOfMemoryMidway is_task run is = apart task r OutOfMemoryMidway statuses.ReadFault run is (λ e. cc)
read_fault_only task r (ReportTruncated reply) is_task run is = apart task r (ReportTruncated reply) statuses.ReadFault run is (λ e. cc)
read_fault_only task r (NoAnswer refusal) is_task run is = no_refusal task r refusal statuses.ReadFault is_task run is (λ e. cc) (λ e. cc) (λ e. cc) (λ e. cc)

-- a refusal with the status of memory is the one for running out of memory
memory_refused : (task : Task) (r : Run) (refusal : Refusal) → IsTask task → IsRun task r (NoAnswer refusal) → r.status ≡ statuses.Memory → ReportsError r memory_refusal
memory_refused task r refusal is_task run is =
    let refuses : Refuses task run.bytes refusal = run.judged.1 in
    let reported : Refusal = task.refusal refuses.fault in
    let here : ReportsError r reported = subst (λ (x : Refusal). ReportsError r x) refuses.is (reports_error task r refusal run) in
    let has : reported.status ≡ statuses.Memory = sym here.status_is ∙ is in
    let apart_from : IsRefusalStatus reported.status → ⊥ =
    λ status. ⊎_elim (λ (e : reported.status ≡ statuses.Malformed). other (sym e ∙ has) (λ x. cc)) (λ rest.
    ⊎_elim (λ (e : reported.status ≡ statuses.Limit). other (sym e ∙ has) (λ x. cc))
    (λ (e : reported.status ≡ statuses.Refused). other (sym e ∙ has) (λ x. cc)) rest) status in
    ⊎_elim
    (λ (status : IsRefusalStatus reported.status). absurd (apart_from status))
    (λ (same : reported ≡ memory_refusal). subst (λ (x : Refusal). ReportsError r x) same here)
    (is_task.refusals run.bytes refuses.fault refuses.meets)
  where
    other : {s t : Status} → s ≡ t → (s ≡ t → ⊥) → ⊥
    other is isnt = isnt is

pub memory_only : (task : Task) (r : Run) (o : Outcome) → IsTask task → IsRun task r o → r.status ≡ statuses.Memory → ReportsError r memory_refusal ⊎ OfInput task r (ReplyOutOfMemory task r)
memory_only task r ReadFault is_task run is = apart task r ReadFault statuses.Memory run is (λ e. cc)
memory_only task r TooLong is_task run is = apart task r TooLong statuses.Memory run is (λ e. cc)
memory_only task r Memory is_task run is = inl (memory_reported task r run)
memory_only task r (Answered reply) is_task run is = no_reply task r reply statuses.Memory is_task run is (λ e. cc) (λ e. cc) (λ e. cc)
memory_only task r Truncated is_task run is = apart task r Truncated statuses.Memory run is (λ e. cc)
memory_only task r OutOfMemoryMidway is_task run is = inr (out_of_memory task r run)
memory_only task r (ReportTruncated reply) is_task run is = apart task r (ReportTruncated reply) statuses.Memory run is (λ e. cc)
memory_only task r (NoAnswer refusal) is_task run is = inl (memory_refused task r refusal is_task run is)

-- no command ends with the status of a usage error
pub not_usage : {A : Type 0} (task : Task) (r : Run) (o : Outcome) → IsTask task → IsRun task r o → r.status ≡ statuses.Usage → A
not_usage task r ReadFault is_task run is = apart task r ReadFault statuses.Usage run is (λ e. cc)
not_usage task r TooLong is_task run is = apart task r TooLong statuses.Usage run is (λ e. cc)
not_usage task r Memory is_task run is = apart task r Memory statuses.Usage run is (λ e. cc)
not_usage task r (Answered reply) is_task run is = no_reply task r reply statuses.Usage is_task run is (λ e. cc) (λ e. cc) (λ e. cc)
not_usage task r Truncated is_task run is = apart task r Truncated statuses.Usage run is (λ e. cc)
not_usage task r OutOfMemoryMidway is_task run is = apart task r OutOfMemoryMidway statuses.Usage run is (λ e. cc)
not_usage task r (ReportTruncated reply) is_task run is = apart task r (ReportTruncated reply) statuses.Usage run is (λ e. cc)
not_usage task r (NoAnswer refusal) is_task run is = no_refusal task r refusal statuses.Usage is_task run is (λ e. cc) (λ e. cc) (λ e. cc) (λ e. cc)
