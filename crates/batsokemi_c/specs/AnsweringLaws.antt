-- Consequences of the contract of the library's function for one input: when a call answers.
use Rattle.std.specs.Prelude.{◌≡◌, ℕ, List, Some, None}
use Rattle.std.proofs.Common.{sym, ◌∙◌, subst, inl, inr}
use Rattle.text_core.specs.Items.{items_of}
use Rattle.command_line.specs.declared.command.Command.{Command}
use Rattle.command_line.specs.CommandLine.{command_of, AsksFor}
use Rattle.frame_core.specs.declared.status.Status.{Status}
use Rattle.frame_core.specs.declared.status.Status.TheVariants.{Usage, ReadFault, WriteFault, Memory}
use Rattle.frame_core.specs.Statuses.{number_of}
use Rattle.frame_core.specs.Reported.{error_line, memory, too_long_refusal}
use Rattle.frame_core.specs.Task.{IsBeyond, IsAnswerable}
use Rattle.frame_core.specs.Run.{Run}
use Rattle.frame_core.specs.Promise.{IsSteady, CommandPromise}
use Rattle.chain_app.specs.Tasks.{task_of}
use Rattle.chain_app.specs.Ending.{Ending, Idle, Ran, IsIdle, IsEnding}
use Rattle.chain_app.specs.RunPromise.{RunPromise}
use Rattle.chain_app.specs.KeepsPromises.{KeepsPromises}
use Rattle.batsokemi_c.specs.Called.{AreWords, memory_run, HasRun, IsAnswered}
use Rattle.batsokemi_c.specs.Answering.{HasSteadyRun, Asks, AnswersWith, AreRefusal, AreErrorLine, usage_refusal}
use Rattle.batsokemi_c.specs.CalledLaws.{IsErrorStatus, ReadsSteadily, WritesSteadily, TellsErrors, TellsOfMemory}
use Rattle.batsokemi_c.specs.CalledLaws.{answered_steady, asked_words, replied, refused_with}
use Rattle.batsokemi_c.specs.CalledLaws.{task_reads, task_writes, task_memory, line_of_error, line_of_promise}

-- ---- what the program's promises say of faults and of error lines

read_ended : (r : Run) (e : Ending) → IsEnding r e → RunPromise r → IsSteady r.source r.source' → r.status ≡ ReadFault → ⊥
read_ended r Idle idle every steady is = (let apart : Usage ≡ ReadFault = sym idle.status_is ∙ is in absurd cc)
read_ended r (Ran command outcome) ran every steady is = task_reads (task_of command) r (every.keeps command ran.0) steady is

pub promises_read : ReadsSteadily KeepsPromises
promises_read r keeps = read_ended r keeps.ending.0 keeps.ending.1 keeps.every

write_ended : (r : Run) (e : Ending) → IsEnding r e → RunPromise r → IsSteady r.out r.out' → IsSteady r.note r.note' → r.status ≡ WriteFault → ⊥
write_ended r Idle idle every out note is = (let apart : Usage ≡ WriteFault = sym idle.status_is ∙ is in absurd cc)
write_ended r (Ran command outcome) ran every out note is = task_writes (task_of command) r (every.keeps command ran.0) out note is

pub promises_write : WritesSteadily KeepsPromises
promises_write r keeps = write_ended r keeps.ending.0 keeps.ending.1 keeps.every

-- words that ask for nothing are refused
idle_refused : (words : List (List ℕ)) (i left o n : List ℕ) (s : Status) (number : ℕ) → number ≡ number_of s → IsIdle (memory_run words i left o 0 n 0 s) → AreRefusal o n number usage_refusal
idle_refused words i left o n s number is idle = refused_with words i left o n s number usage_refusal is (record {
  status_is = idle.status_is;
  on_out = idle.on_out;
  on_note = idle.on_note;
})

line_ended : (words : List (List ℕ)) (i left o n : List ℕ) (s : Status) (e : Ending) → IsEnding (memory_run words i left o 0 n 0 s) e → RunPromise (memory_run words i left o 0 n 0 s) → IsErrorStatus s → AreErrorLine o n
line_ended words i left o n s Idle idle every error =
    line_of_error words i left o n s usage_refusal (record { status_is = idle.status_is; on_out = idle.on_out; on_note = idle.on_note })
line_ended words i left o n s (Ran command outcome) ran every error =
    line_of_promise (task_of command) words i left o n s (every.keeps command ran.0) (λ is. every.usage_only is command ran.0) error

pub promises_tell : TellsErrors KeepsPromises
promises_tell words i left o n s keeps = line_ended words i left o n s keeps.ending.0 keeps.ending.1 keeps.every

memory_ended : (words : List (List ℕ)) (i left o n : List ℕ) (s : Status) (e : Ending) → IsEnding (memory_run words i left o 0 n 0 s) e → RunPromise (memory_run words i left o 0 n 0 s) → s ≡ Memory → n ≡ error_line memory
memory_ended words i left o n s Idle idle every is = (let apart : Usage ≡ Memory = sym idle.status_is ∙ is in absurd cc)
memory_ended words i left o n s (Ran command outcome) ran every is = task_memory (task_of command) words i left o n s (every.keeps command ran.0) is

pub promises_tell_memory : TellsOfMemory KeepsPromises
promises_tell_memory words i left o n s keeps = memory_ended words i left o n s keeps.ending.0 keeps.ending.1 keeps.every

-- ---- answers

keeps_asked : (c i o n bytes : List ℕ) (s : Status) (asked : Command) (has : HasRun KeepsPromises c i o n s) → Asks c i asked bytes → CommandPromise (task_of asked) (memory_run has.words i has.left o 0 n 0 s)
keeps_asked c i o n bytes s asked has asks = has.keeps.every.keeps asked (subst (λ (ws : List (List ℕ)). AsksFor ws asked) (asked_words c has.words has.are_words asks.text) asks.words)

-- An input without a fault gets its answer.
pub answered_with : (c i o o' n n' : List ℕ) (s ol nl : ℕ) (asked : Command) (bytes : List ℕ)
    (a : IsAnswered c i o o' n n' s ol nl) → Asks c i asked bytes → IsAnswerable (task_of asked) bytes →
    (s ≡ 6 → ⊥) → (s ≡ 7 → ⊥) → AnswersWith (task_of asked) bytes a.out a.note s
answered_with c i o o' n n' s ol nl asked bytes a asks may room memory =
    let held : HasSteadyRun c i a.out a.note a.ended = answered_steady KeepsPromises c i o o' n n' s ol nl a room memory in
    replied (task_of asked) held.run.words i held.run.left a.out a.note bytes a.ended s a.status_is
    ((keeps_asked c i a.out a.note bytes a.ended asked held.run asks).complete bytes asks.holds may held.steady)

-- ---- refusals

-- A fault gets its error line.
pub refused_by : (c i o o' n n' : List ℕ) (s ol nl : ℕ) (asked : Command) (bytes : List ℕ) (fault : (task_of asked).Fault)
    (a : IsAnswered c i o o' n n' s ol nl) → Asks c i asked bytes → (task_of asked).Meets bytes fault →
    (s ≡ 6 → ⊥) → (s ≡ 7 → ⊥) → AreRefusal a.out a.note s ((task_of asked).refusal fault)
refused_by c i o o' n n' s ol nl asked bytes fault a asks meets room memory =
    let held : HasSteadyRun c i a.out a.note a.ended = answered_steady KeepsPromises c i o o' n n' s ol nl a room memory in
    refused_with held.run.words i held.run.left a.out a.note a.ended s ((task_of asked).refusal fault) a.status_is
    ((keeps_asked c i a.out a.note bytes a.ended asked held.run asks).refused bytes fault asks.holds meets held.steady.output.input)

-- An input that is too long gets the error line for this.
pub too_long_by : (c i o o' n n' : List ℕ) (s ol nl : ℕ) (asked : Command) (bytes : List ℕ)
    (a : IsAnswered c i o o' n n' s ol nl) → Asks c i asked bytes → IsBeyond (task_of asked).reads bytes →
    (s ≡ 6 → ⊥) → (s ≡ 7 → ⊥) → AreRefusal a.out a.note s too_long_refusal
too_long_by c i o o' n n' s ol nl asked bytes a asks beyond room memory =
    let held : HasSteadyRun c i a.out a.note a.ended = answered_steady KeepsPromises c i o o' n n' s ol nl a room memory in
    refused_with held.run.words i held.run.left a.out a.note a.ended s too_long_refusal a.status_is
    ((keeps_asked c i a.out a.note bytes a.ended asked held.run asks).too_long bytes asks.holds beyond held.steady.output.input)

-- what the words of a run ask for, the items of the command line ask for
pub items_ask : (c : List ℕ) (words : List (List ℕ)) (x : Command) → AreWords c words → AsksFor words x → AsksFor (items_of c) x
unfolding command_of
items_ask c words x (inl same) asks = subst (λ (ws : List (List ℕ)). AsksFor ws x) same asks
items_ask c words x (inr none) asks =
    (let e : None ≡ Some x = subst (λ (ws : List (List ℕ)). AsksFor ws x) none.none asks in absurd cc)

-- Words that ask for nothing get the error line for this.
pub idle_by : (c i o o' n n' : List ℕ) (s ol nl : ℕ) (a : IsAnswered c i o o' n n' s ol nl) →
    ((asked : Command) → AsksFor (items_of c) asked → ⊥) →
    (s ≡ 6 → ⊥) → (s ≡ 7 → ⊥) → AreRefusal a.out a.note s usage_refusal
idle_by c i o o' n n' s ol nl a none room memory =
    let held : HasSteadyRun c i a.out a.note a.ended = answered_steady KeepsPromises c i o o' n n' s ol nl a room memory in
    idle_refused held.run.words i held.run.left a.out a.note a.ended s a.status_is
    (held.run.keeps.every.usage (λ x asks. none x (items_ask c held.run.words x held.run.are_words asks)))
