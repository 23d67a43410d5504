-- Every run with an outcome keeps the promise of all commands.
use Rattle.std.specs.Prelude.{◌≡◌, ◌≢◌, ℕ, ◌⊎◌, Bool, true, false, List, Option, Some, None}
use Rattle.std.proofs.Common.{◌∙◌, ap, subst, inl, inr}
use Rattle.std.proofs.Math.Logic.{⊎_elim}
use Rattle.frame_core.specs.declared.status.Status.TheVariants as statuses
use Rattle.frame_core.specs.Outside.{PortState}
use Rattle.frame_core.specs.Reported.{Reply, Refusal, too_long_refusal}
use Rattle.frame_core.specs.Task.{Task, IsAnswerPrefix, IsBegunPrefix, MayBeLeft, HasReply, IsBeyond, IsAnswerable, IsTask}
use Rattle.frame_core.specs.Run.{Outcome, ReadFault, TooLong, Memory, Answered, Truncated, OutOfMemoryMidway}
use Rattle.frame_core.specs.Run.{ReportTruncated, NoAnswer, Run, IsRun, IsInput, HasInput, SourceAfter}
use Rattle.frame_core.specs.CallLaws.{read_failed, write_failed, read_to_end, unread, untouched}
use Rattle.frame_core.specs.Promise.{InputHeld, OutputHeld, AllSteady, ReportsError, Replies, Faults}
use Rattle.frame_core.specs.Promise.{ReplyTruncated, ReportTruncated as TruncatedReport}
use Rattle.frame_core.specs.Promise.{CommandPromise}
use Rattle.frame_core.specs.OutcomeLaws.{input_is, of_input, replies, reply_truncated, report_truncated, faults}
use Rattle.frame_core.specs.OutcomeLaws.{long_reported, source_rose, apart, no_reply, no_refusal, done_only}
use Rattle.frame_core.specs.OutcomeLaws.{undecided_only, refused_only, malformed_only, limit_only, write_fault_only}
use Rattle.frame_core.specs.OutcomeLaws.{write_rose, out_rose, read_fault_only, memory_only}

-- ---- what input gets

answered : (task : Task) (r : Run) (o : Outcome) (input : List ℕ) → IsRun task r o →
    HasInput task.reads r.source.bytes input → IsAnswerable task input → OutputHeld r → Replies task r input ⊎
    TruncatedReport task r input
answered task r ReadFault input run reported may held = absurd (held.input.source (source_rose task.reads r.source r.source' run.on_source))
answered task r TooLong input run reported may held = absurd (may.within (run.judged input reported))
answered task r Memory input run reported may held = absurd (held.input.memory run.status_is)
answered task r (Answered reply) input run reported may held = inl (of_input task r (Replies task r) input (replies task r reply run) reported)
answered task r Truncated input run reported may held = absurd (held.out run.on_out.1)
answered task r OutOfMemoryMidway input run reported may held = absurd (held.input.memory run.status_is)
answered task r (ReportTruncated reply) input run reported may held = inr (of_input task r (TruncatedReport task r) input (report_truncated task r reply run) reported)
answered task r (NoAnswer refusal) input run reported may held =
    let f : Faults task r input = of_input task r (Faults task r) input (faults task r refusal run) reported in
    absurd (may.sound f.fault f.meets)

complete : (task : Task) (r : Run) (o : Outcome) (input : List ℕ) → IsRun task r o → HasInput task.reads r.source.bytes input → IsAnswerable task input → AllSteady r → Replies task r input
complete task r o input run reported may steady =
    ⊎_elim
    (λ (got : Replies task r input). got)
    (λ (truncated : TruncatedReport task r input). absurd (steady.note truncated.rose))
    (answered task r o input run reported may steady.output)

-- an answer of the bytes that were judged is an answer of the input
has_answer : {A : Type 0} (task : Task) (r : Run) (bytes input : List ℕ) (reply : Reply) →
    IsInput task.reads r.source.bytes bytes → HasInput task.reads r.source.bytes input → HasReply task bytes reply →
    ((answer : task.Answer) → task.Has input answer → ⊥) → A
has_answer task r bytes input reply are reported replied none =
    absurd (none replied.answer (subst (λ (bs : List ℕ). task.Has bs replied.answer) (input_is task.reads r.source.bytes bytes input are reported) replied.has))

-- a truncated text is never that of an input with a fault, or of one that is too long
no_fault_stands : {A : Type 0} (task : Task) (input prefix : List ℕ) (fault : task.Fault) → IsTask task → MayBeLeft task input prefix → task.Meets input fault → A
no_fault_stands task input prefix fault is stands meets =
    ⊎_elim
    (λ (of : IsAnswerPrefix task input prefix). absurd (is.apart input of.answer fault of.has meets))
    (λ (of : IsBegunPrefix task input prefix). absurd (is.begins_apart input of.text fault of.begins meets))
    stands

none_beyond_stands : {A : Type 0} (task : Task) (input prefix : List ℕ) → IsTask task → MayBeLeft task input prefix → IsBeyond task.reads input → A
none_beyond_stands task input prefix is stands long =
    ⊎_elim
    (λ (of : IsAnswerPrefix task input prefix). absurd (is.answer_within input of.answer of.has long))
    (λ (of : IsBegunPrefix task input prefix). absurd (is.begins_within input of.text of.begins long))
    stands

refused : (task : Task) (r : Run) (o : Outcome) (input : List ℕ) (fault : task.Fault) → IsTask task → IsRun task r o →
    HasInput task.reads r.source.bytes input → task.Meets input fault → InputHeld r →
    ReportsError r (task.refusal fault)
refused task r ReadFault input fault is run reported meets held = absurd (held.source (source_rose task.reads r.source r.source' run.on_source))
refused task r TooLong input fault is run reported meets held = absurd (is.fault_within input fault meets (run.judged input reported))
refused task r Memory input fault is run reported meets held = absurd (held.memory run.status_is)
refused task r (Answered reply) input fault is run reported meets held =
    has_answer task r run.bytes input reply run.judged.0 reported run.judged.1 (λ answer has.
    is.apart input answer fault has meets)
refused task r Truncated input fault is run reported meets held =
    let truncated : ReplyTruncated task r input = of_input task r (ReplyTruncated task r) input (reply_truncated task r run) reported in
    no_fault_stands task input truncated.prefix fault is truncated.leaves meets
refused task r OutOfMemoryMidway input fault is run reported meets held = absurd (held.memory run.status_is)
refused task r (ReportTruncated reply) input fault is run reported meets held =
    has_answer task r run.bytes input reply run.judged.0 reported run.judged.1 (λ answer has.
    is.apart input answer fault has meets)
refused task r (NoAnswer refusal) input fault is run reported meets held =
    let f : Faults task r input = of_input task r (Faults task r) input (faults task r refusal run) reported in
    subst (λ (x : Refusal). ReportsError r x) (is.one input f.fault fault f.meets meets) f.reported

too_long_reported : (task : Task) (r : Run) (o : Outcome) (input : List ℕ) → IsTask task → IsRun task r o →
    HasInput task.reads r.source.bytes input → IsBeyond task.reads input → InputHeld r → ReportsError r too_long_refusal
too_long_reported task r ReadFault input is run reported long held = absurd (held.source (source_rose task.reads r.source r.source' run.on_source))
too_long_reported task r TooLong input is run reported long held = long_reported task r run
too_long_reported task r Memory input is run reported long held = absurd (held.memory run.status_is)
too_long_reported task r (Answered reply) input is run reported long held =
    has_answer task r run.bytes input reply run.judged.0 reported run.judged.1 (λ answer has.
    is.answer_within input answer has long)
too_long_reported task r Truncated input is run reported long held =
    let truncated : ReplyTruncated task r input = of_input task r (ReplyTruncated task r) input (reply_truncated task r run) reported in
    none_beyond_stands task input truncated.prefix is truncated.leaves long
too_long_reported task r OutOfMemoryMidway input is run reported long held = absurd (held.memory run.status_is)
too_long_reported task r (ReportTruncated reply) input is run reported long held =
    has_answer task r run.bytes input reply run.judged.0 reported run.judged.1 (λ answer has.
    is.answer_within input answer has long)
too_long_reported task r (NoAnswer refusal) input is run reported long held =
    let f : Faults task r input = of_input task r (Faults task r) input (faults task r refusal run) reported in
    absurd (is.fault_within input f.fault f.meets long)

-- ---- the source

-- if the source isn't read, it has no failed call
no_fault : (reads : Option ℕ) (old new : PortState) → reads ≡ None → SourceAfter reads old new ReadFault → ⊥
no_fault None old new none after = after
no_fault (Some most) old new none after = absurd cc

never_read : (task : Task) (r : Run) (o : Outcome) → IsTask task → IsRun task r o → task.reads ≡ None → r.status ≡ statuses.ReadFault → ⊥
never_read task r ReadFault is_task run reads is = no_fault task.reads r.source r.source' reads run.on_source
never_read task r TooLong is_task run reads is = apart task r TooLong statuses.ReadFault run is (λ e. cc)
never_read task r Memory is_task run reads is = apart task r Memory statuses.ReadFault run is (λ e. cc)
never_read task r (Answered reply) is_task run reads is = no_reply task r reply statuses.ReadFault is_task run is (λ e. cc) (λ e. cc) (λ e. cc)
never_read task r Truncated is_task run reads is = apart task r Truncated statuses.ReadFault run is (λ e. cc)
never_read task r OutOfMemoryMidway is_task run reads is = apart task r OutOfMemoryMidway statuses.ReadFault run is (λ e. cc)
never_read task r (ReportTruncated reply) is_task run reads is = apart task r (ReportTruncated reply) statuses.ReadFault run is (λ e. cc)
never_read task r (NoAnswer refusal) is_task run reads is = no_refusal task r refusal statuses.ReadFault is_task run is (λ e. cc) (λ e. cc) (λ e. cc) (λ e. cc)

-- ---- the output

not_done : {A : Type 0} (task : Task) (r : Run) (reply : Reply) → IsTask task → IsRun task r (Answered reply) →
    r.status ≢ statuses.Done → r.status ≢ statuses.Undecided → r.status ≢ statuses.Refused → A
not_done task r reply is_task run a b c =
    let replied : HasReply task run.bytes reply = run.judged.1 in
    let has : r.status ≡ (task.reply replied.answer).status = run.status_is ∙ ap (λ (x : Reply). x.status) replied.is in
    absurd (⊎_elim (λ (e : (task.reply replied.answer).status ≡ statuses.Done). a (has ∙ e)) (λ rest.
    ⊎_elim (λ (e : (task.reply replied.answer).status ≡ statuses.Undecided). b (has ∙ e))
    (λ (e : (task.reply replied.answer).status ≡ statuses.Refused). c (has ∙ e)) rest)
    (is_task.replies replied.answer))

both : {A : Type 0} (b : Bool) → b ≡ true → b ≡ false → A
both b is isnt = absurd cc

unchanged : (task : Task) (r : Run) (o : Outcome) → IsTask task → IsRun task r o → r.status ≢ statuses.Done →
    r.status ≢ statuses.Undecided → r.status ≢ statuses.Refused → r.status ≢ statuses.WriteFault →
    (r.status ≡ statuses.Memory → task.in_pieces ≡ false) → r.out' ≡ r.out
unchanged task r ReadFault is_task run a b c d whole = run.on_out
unchanged task r TooLong is_task run a b c d whole = run.on_out
unchanged task r Memory is_task run a b c d whole = run.on_out
unchanged task r (Answered reply) is_task run a b c d whole = not_done task r reply is_task run a b c
unchanged task r Truncated is_task run a b c d whole = absurd (d run.status_is)
unchanged task r OutOfMemoryMidway is_task run a b c d whole = both task.in_pieces run.judged.1 (whole run.status_is)
unchanged task r (ReportTruncated reply) is_task run a b c d whole = absurd (d run.status_is)
unchanged task r (NoAnswer refusal) is_task run a b c d whole = run.on_out

-- ---- the promise

-- A run with an outcome keeps the whole promise.
pub promised : (task : Task) (r : Run) (o : Outcome) → IsTask task → IsRun task r o → CommandPromise task r
promised task r o is_task run = record {
  complete = λ input reported may steady. complete task r o input run reported may steady;
  answered = λ input reported may held. answered task r o input run reported may held;
  refused = λ input fault reported meets held. refused task r o input fault is_task run reported meets held;
  too_long = λ input reported long held. too_long_reported task r o input is_task run reported long held;
  done_only = λ is. done_only task r o is_task run is;
  undecided_only = λ is. undecided_only task r o is_task run is;
  refused_only = λ is. refused_only task r o is_task run is;
  malformed_only = λ is. malformed_only task r o is_task run is;
  limit_only = λ is. limit_only task r o is_task run is;
  read_fault_only = λ is. read_fault_only task r o is_task run is;
  write_fault_only = λ is. write_fault_only task r o is_task run is;
  write_rose = λ is. write_rose task r o is_task run is;
  out_rose = λ none is. out_rose task r o is_task run none is;
  read_failed = λ more. read_failed task r o run more;
  write_failed = λ more. write_failed task r o run more;
  memory_only = λ is. memory_only task r o is_task run is;
  unchanged = λ a b c d whole. unchanged task r o is_task run a b c d whole;
  read_to_end = λ most input reads reported a b c. read_to_end task r o most input run reads reported a b c;
  unread = λ most input reads reported left. unread task r o most input run reads reported left;
  untouched = λ reads. untouched task r o run reads;
  never_read = λ reads is. never_read task r o is_task run reads is;
}
