-- Consequences of a call's contract, whatever is promised of its run.
use Rattle.std.specs.Prelude.{◌≡◌, ℕ, ◌<◌, ◌⊎◌, List, [], Option, Some, None, All, refl}
use Rattle.std.proofs.Common.{arith, sym, ◌∙◌, ap, inl, inr, ⊎_elim}
use Rattle.std.specs.Str.{IsUtf8}
use Rattle.port_io.specs.Bytes.{Appends, appended}
use Rattle.port_io.specs.Faults.{Rose}
use Rattle.text_core.specs.Items.{items_of}
use Rattle.frame_core.specs.declared.status.Status.{Status}
use Rattle.frame_core.specs.declared.status.Status.TheVariants.{Done, Usage, Malformed, Limit, Undecided, ReadFault, WriteFault, Memory, Refused}
use Rattle.frame_core.specs.Statuses.{number_of}
use Rattle.frame_core.specs.Outside.{PortState, Writes}
use Rattle.frame_core.specs.Reported.{Refusal, error_line, memory}
use Rattle.frame_core.specs.Task.{Task}
use Rattle.frame_core.specs.Run.{Run, Reports}
use Rattle.frame_core.specs.Promise.{IsSteady, AllSteady, ReportsError, Replies, Faults, OfInput, CommandPromise}
use Rattle.batsokemi_c.specs.Called.{AreWords, holding, memory_run, HasLackedRoom, IsCalled, IsAnsweredBy}
use Rattle.batsokemi_c.specs.Answering.{HasSteadyRunBy, report_of, AnswersWith, AreRefusal, AreErrorLine, TellsMemory}

-- ---- statuses

is_five : (s : Status) → number_of s ≡ 5 → s ≡ ReadFault
is_five Done e = absurd cc
is_five Usage e = absurd cc
is_five Malformed e = absurd cc
is_five Limit e = absurd cc
is_five Undecided e = absurd cc
is_five ReadFault e = refl
is_five WriteFault e = absurd cc
is_five Memory e = absurd cc
is_five Refused e = absurd cc

is_six : (s : Status) → number_of s ≡ 6 → s ≡ WriteFault
is_six Done e = absurd cc
is_six Usage e = absurd cc
is_six Malformed e = absurd cc
is_six Limit e = absurd cc
is_six Undecided e = absurd cc
is_six ReadFault e = absurd cc
is_six WriteFault e = refl
is_six Memory e = absurd cc
is_six Refused e = absurd cc

is_seven : (s : Status) → number_of s ≡ 7 → s ≡ Memory
is_seven Done e = absurd cc
is_seven Usage e = absurd cc
is_seven Malformed e = absurd cc
is_seven Limit e = absurd cc
is_seven Undecided e = absurd cc
is_seven ReadFault e = absurd cc
is_seven WriteFault e = absurd cc
is_seven Memory e = refl
is_seven Refused e = absurd cc

-- a status with an error line
abbrev pub IsErrorStatus : Status → Type 0
IsErrorStatus s = (s ≡ Usage) ⊎ ((s ≡ Malformed) ⊎ (s ≡ Limit))

is_error : (s : Status) → 0 < number_of s → number_of s < 4 → IsErrorStatus s
is_error Done low high = absurd (omega (arith, low))
is_error Usage low high = inl refl
is_error Malformed low high = inr (inl refl)
is_error Limit low high = inr (inr refl)
is_error Undecided low high = absurd (omega (arith, high))
is_error ReadFault low high = absurd (omega (arith, high))
is_error WriteFault low high = absurd (omega (arith, high))
is_error Memory low high = absurd (omega (arith, high))
is_error Refused low high = absurd (omega (arith, high))

-- ---- what a promise may say of faults and of error lines

-- Without a failed call of the source no run ends with a read fault, and without one of the sinks none with a write fault.
abbrev pub ReadsSteadily : (Run → Type 0) → Type 0
ReadsSteadily P = (r : Run) → P r → IsSteady r.source r.source' → r.status ≡ ReadFault → ⊥

abbrev pub WritesSteadily : (Run → Type 0) → Type 0
WritesSteadily P = (r : Run) → P r → IsSteady r.out r.out' → IsSteady r.note r.note' → r.status ≡ WriteFault → ⊥

-- A run in memory with the status of an error writes its line.
abbrev pub TellsErrors : (Run → Type 0) → Type 0
TellsErrors P = (words : List (List ℕ)) (i left o n : List ℕ) (s : Status) → P (memory_run words i left o 0 n 0 s) → IsErrorStatus s → AreErrorLine o n

-- A run in memory for which memory ran out writes that line.
abbrev pub TellsOfMemory : (Run → Type 0) → Type 0
TellsOfMemory P = (words : List (List ℕ)) (i left o n : List ℕ) (s : Status) → P (memory_run words i left o 0 n 0 s) → s ≡ Memory → n ≡ error_line memory

-- a command's promise says so
pub task_reads : (task : Task) → ReadsSteadily (CommandPromise task)
task_reads task r promise steady is = steady (promise.read_fault_only is).0

pub task_writes : (task : Task) → WritesSteadily (CommandPromise task)
task_writes task r promise out note is = ⊎_elim (λ rose. out rose) (λ rose. note rose) (promise.write_rose is)

-- ---- counts of 0

not_rose : Rose 0 0 → ⊥
not_rose (inl less) = omega (arith, less)
not_rose (inr same) = absurd cc

called_read : (P : Run → Type 0) → ReadsSteadily P → (c i o n : List ℕ) (s : Status) → IsCalled P c i o n s → s ≡ ReadFault → ⊥
called_read P never c i o n s (inl has) is = never (memory_run has.words i has.left o 0 n 0 s) has.keeps not_rose is
called_read P never c i o n s (inr (inl lacked)) is = (let apart : WriteFault ≡ ReadFault = sym lacked.status_is ∙ is in absurd cc)
called_read P never c i o n s (inr (inr none)) is = (let apart : Memory ≡ ReadFault = sym none.status_is ∙ is in absurd cc)

-- No call has the status 5.
pub no_read_fault : (P : Run → Type 0) → ReadsSteadily P → (c i o o' n n' : List ℕ) (s ol nl : ℕ) → IsAnsweredBy P c i o o' n n' s ol nl → s ≡ 5 → ⊥
no_read_fault P never c i o o' n n' s ol nl a is = called_read P never c i a.out a.note a.ended a.called (is_five a.ended (sym a.status_is ∙ is))

called_write : (P : Run → Type 0) → WritesSteadily P → (c i o n : List ℕ) (s : Status) → IsCalled P c i o n s → s ≡ WriteFault → HasLackedRoom P c i o n s
called_write P never c i o n s (inl has) is = absurd (never (memory_run has.words i has.left o 0 n 0 s) has.keeps not_rose not_rose is)
called_write P never c i o n s (inr (inl lacked)) is = lacked
called_write P never c i o n s (inr (inr none)) is = (let apart : Memory ≡ WriteFault = sym none.status_is ∙ is in absurd cc)

-- The status 6 means that a sink had no room.
pub write_fault_lacks : (P : Run → Type 0) → WritesSteadily P → (c i o o' n n' : List ℕ) (s ol nl : ℕ) (a : IsAnsweredBy P c i o o' n n' s ol nl) → s ≡ 6 → HasLackedRoom P c i a.out a.note a.ended
write_fault_lacks P never c i o o' n n' s ol nl a is = called_write P never c i a.out a.note a.ended a.called (is_six a.ended (sym a.status_is ∙ is))

-- ---- with enough memory

pub all_steady : (words : List (List ℕ)) (i left o n : List ℕ) (s : Status) → (s ≡ Memory → ⊥) → AllSteady (memory_run words i left o 0 n 0 s)
all_steady words i left o n s apart = record {
  output = record {
    input = record { source = not_rose; memory = apart };
    out = not_rose;
  };
  note = not_rose;
}

called_steady : (P : Run → Type 0) (c i o n : List ℕ) (s : Status) → IsCalled P c i o n s → (s ≡ WriteFault → ⊥) → (s ≡ Memory → ⊥) → HasSteadyRunBy P c i o n s
called_steady P c i o n s (inl has) room more = record { run = has; steady = all_steady has.words i has.left o n s more }
called_steady P c i o n s (inr (inl lacked)) room more = absurd (room lacked.status_is)
called_steady P c i o n s (inr (inr none)) room more = absurd (more none.status_is)

-- Any other status than 6 and 7 means that no call failed at all.
pub answered_steady : (P : Run → Type 0) (c i o o' n n' : List ℕ) (s ol nl : ℕ) (a : IsAnsweredBy P c i o o' n n' s ol nl) → (s ≡ 6 → ⊥) → (s ≡ 7 → ⊥) → HasSteadyRunBy P c i a.out a.note a.ended
answered_steady P c i o o' n n' s ol nl a room memory =
    called_steady P c i a.out a.note a.ended a.called
    (λ is. room (a.status_is ∙ ap number_of is))
    (λ is. memory (a.status_is ∙ ap number_of is))

-- ---- texts

text_appended : (text written : List ℕ) → Appends (Some []) (Some written) text → written ≡ text
unfolding appended
text_appended text written is = (let same : Some written ≡ Some text = is in cc)

pub text_written : (text written : List ℕ) → Writes (holding [] 0) (holding written 0) text → written ≡ text
text_written text written is = text_appended text written (is.whole not_rose)

pub nothing_written : (written : List ℕ) → holding written 0 ≡ holding [] 0 → written ≡ []
nothing_written written is = (let same : Some written ≡ Some [] = ap (λ (p : PortState). p.bytes) is in cc)

report_written : (written : List ℕ) (report : Option (List ℕ)) → Reports (holding [] 0) (holding written 0) report → written ≡ report_of report
report_written written None is = nothing_written written is
report_written written (Some text) is = text_appended text written is

-- ---- answers and refusals

pub asked_words : (c : List ℕ) (words : List (List ℕ)) → AreWords c words → All IsUtf8 (items_of c) → items_of c ≡ words
asked_words c words (inl same) text = sym same
asked_words c words (inr none) text = absurd (none.not_all text)

pub replied : (task : Task) (words : List (List ℕ)) (i left o n bytes : List ℕ) (s : Status) (number : ℕ) → number ≡ number_of s → Replies task (memory_run words i left o 0 n 0 s) bytes → AnswersWith task bytes o n number
replied task words i left o n bytes s number is replies = record {
  answer = replies.answer;
  has = replies.has;
  gives = record {
    status_is = is ∙ ap number_of replies.stands.status_is;
    output_is = text_appended (task.reply replies.answer).text o replies.stands.on_out;
    notes_are = report_written n (task.reply replies.answer).report replies.stands.on_note;
  };
}

pub refused_with : (words : List (List ℕ)) (i left o n : List ℕ) (s : Status) (number : ℕ) (refusal : Refusal) → number ≡ number_of s → ReportsError (memory_run words i left o 0 n 0 s) refusal → AreRefusal o n number refusal
refused_with words i left o n s number refusal is reports = record {
  status_is = is ∙ ap number_of reports.status_is;
  output_is = nothing_written o reports.on_out;
  notes_are = text_written (error_line refusal.named) n reports.on_note;
}

-- ---- error lines

pub line_of_error : (words : List (List ℕ)) (i left o n : List ℕ) (s : Status) (refusal : Refusal) → ReportsError (memory_run words i left o 0 n 0 s) refusal → AreErrorLine o n
line_of_error words i left o n s refusal reports = record {
  fields = refusal.named;
  output_is = nothing_written o reports.on_out;
  notes_are = text_written (error_line refusal.named) n reports.on_note;
}

line_of_fault : (task : Task) (words : List (List ℕ)) (i left o n : List ℕ) (s : Status) → OfInput task (memory_run words i left o 0 n 0 s) (Faults task (memory_run words i left o 0 n 0 s)) → AreErrorLine o n
line_of_fault task words i left o n s of = line_of_error words i left o n s (task.refusal of.holds.fault) of.holds.reported

pub line_of_promise : (task : Task) (words : List (List ℕ)) (i left o n : List ℕ) (s : Status) → CommandPromise task (memory_run words i left o 0 n 0 s) → (s ≡ Usage → ⊥) → IsErrorStatus s → AreErrorLine o n
line_of_promise task words i left o n s promise apart (inl is) = absurd (apart is)
line_of_promise task words i left o n s promise apart (inr (inl is)) = line_of_fault task words i left o n s (promise.malformed_only is)
line_of_promise task words i left o n s promise apart (inr (inr is)) = ⊎_elim
    (λ of. line_of_fault task words i left o n s of)
    (λ long. line_of_error words i left o n s _ long.reported)
    (promise.limit_only is)

-- no error status is one of these
apart_errors : (s : Status) → (s ≡ WriteFault) ⊎ (s ≡ Memory) → IsErrorStatus s → ⊥
apart_errors s (inl x) (inl is) = (let e : WriteFault ≡ Usage = sym x ∙ is in absurd cc)
apart_errors s (inl x) (inr (inl is)) = (let e : WriteFault ≡ Malformed = sym x ∙ is in absurd cc)
apart_errors s (inl x) (inr (inr is)) = (let e : WriteFault ≡ Limit = sym x ∙ is in absurd cc)
apart_errors s (inr x) (inl is) = (let e : Memory ≡ Usage = sym x ∙ is in absurd cc)
apart_errors s (inr x) (inr (inl is)) = (let e : Memory ≡ Malformed = sym x ∙ is in absurd cc)
apart_errors s (inr x) (inr (inr is)) = (let e : Memory ≡ Limit = sym x ∙ is in absurd cc)

called_line : (P : Run → Type 0) → TellsErrors P → (c i o n : List ℕ) (s : Status) → IsCalled P c i o n s → IsErrorStatus s → AreErrorLine o n
called_line P tells c i o n s (inl has) error = tells has.words i has.left o n s has.keeps error
called_line P tells c i o n s (inr (inl lacked)) error = absurd (apart_errors s (inl lacked.status_is) error)
called_line P tells c i o n s (inr (inr none)) error = absurd (apart_errors s (inr none.status_is) error)

-- With the statuses 1, 2 and 3 the notes are an error line.
pub line_stands : (P : Run → Type 0) → TellsErrors P → (c i o o' n n' : List ℕ) (s ol nl : ℕ) (a : IsAnsweredBy P c i o o' n n' s ol nl) → 0 < s → s < 4 → AreErrorLine a.out a.note
line_stands P tells c i o o' n n' s ol nl a low high =
    called_line P tells c i a.out a.note a.ended a.called
    (is_error a.ended (omega (arith, low, a.status_is)) (omega (arith, high, a.status_is)))

-- ---- the line of memory

pub task_memory : (task : Task) → TellsOfMemory (CommandPromise task)
task_memory task words i left o n s promise is = ⊎_elim
    (λ reports. text_written (error_line memory) n reports.on_note)
    (λ of. text_written (error_line memory) n of.holds.on_note)
    (promise.memory_only is)

called_memory : (P : Run → Type 0) → TellsOfMemory P → (c i o n : List ℕ) (s : Status) → IsCalled P c i o n s → s ≡ Memory → TellsMemory o n
called_memory P tells c i o n s (inl has) is = inl (tells has.words i has.left o n s has.keeps is)
called_memory P tells c i o n s (inr (inl lacked)) is = (let apart : WriteFault ≡ Memory = sym lacked.status_is ∙ is in absurd cc)
called_memory P tells c i o n s (inr (inr none)) is = inr (none.no_output, none.no_notes)

-- With the status 7 the notes are the error line of memory, or nothing was written.
pub memory_stands : (P : Run → Type 0) → TellsOfMemory P → (c i o o' n n' : List ℕ) (s ol nl : ℕ) (a : IsAnsweredBy P c i o o' n n' s ol nl) → s ≡ 7 → TellsMemory a.out a.note
memory_stands P tells c i o o' n n' s ol nl a is = called_memory P tells c i a.out a.note a.ended a.called (is_seven a.ended (sym a.status_is ∙ is))
