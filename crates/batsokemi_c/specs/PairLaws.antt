-- Consequences of the contract of the library's function for two texts: when a call answers.
use Rattle.std.specs.Prelude.{◌≡◌, ℕ, ◌<◌, ◌≤◌, ◌⊎◌, List, length, Option, Some, None, refl}
use Rattle.std.proofs.Common.{sym, ◌∙◌, ap, subst, inl, inr}
use Rattle.std.proofs.lemmas.Bool.{cases_lt}
use Rattle.text_core.specs.Items.{items_of}
use Rattle.net_theory.specs.Limits.{most_of_netlist}
use Rattle.command_line.specs.declared.command.Command.{Command}
use Rattle.command_line.specs.declared.command.Command.TheVariants.{Agree, Recheck, RecheckDepth, Synth, LeastDepth, Improve, Equiv, Gen}
use Rattle.command_line.specs.CommandLine.{command_of, AsksFor}
use Rattle.frame_core.specs.declared.status.Status.{Status}
use Rattle.frame_core.specs.declared.status.Status.TheVariants.{Done, Usage, Malformed, Limit, Undecided, ReadFault, WriteFault, Memory, Refused}
use Rattle.frame_core.specs.Reported.{Refusal, error_line, memory, memory_refusal, too_long_refusal}
use Rattle.frame_core.specs.Task.{Task, IsAnswerable, IsAnswerStatus, IsRefusalStatus, IsTask}
use Rattle.frame_core.specs.Run.{Run, HasInput}
use Rattle.frame_core.specs.Promise.{AllSteady, ReportsError, Replies, CommandPromise}
use Rattle.cmd_equiv.specs.WithReport.{WithFault, MeetsWithFault, with_refusal, with_task}
use Rattle.cmd_equiv.specs.WithLaws.{with_is_task}
use Rattle.chain_app.specs.Pair.{KeepsPair, first_too_long, no_comparison}
use Rattle.batsokemi_c.specs.Called.{memory_run, HasRun, IsPairAnswered}
use Rattle.batsokemi_c.specs.Answering.{HasSteadyPair, AsksToCompare, AnswersWith, AreRefusal, AreErrorLine}
use Rattle.batsokemi_c.specs.CalledLaws.{IsErrorStatus, ReadsSteadily, WritesSteadily, TellsErrors, TellsOfMemory}
use Rattle.batsokemi_c.specs.CalledLaws.{all_steady, answered_steady, asked_words, replied, refused_with}
use Rattle.batsokemi_c.specs.CalledLaws.{task_reads, task_writes, task_memory, line_of_error, line_of_promise}
use Rattle.batsokemi_c.specs.AnsweringLaws.{items_ask}

-- ---- how a comparison goes: it runs, its first text is too long, or the words ask for none

abbrev Goes : List ℕ → Run → Type 0
Goes first r = ((budget : ℕ) × CommandPromise (with_task budget first) r) ⊎ (ReportsError r first_too_long ⊎ ReportsError r no_comparison)

-- words ask for one command
one_command : (words : List (List ℕ)) (x y : Command) → command_of words ≡ Some x → AsksFor words y → x ≡ y
one_command words x y is asks = (let same : Some x ≡ Some y = sym is ∙ asks in cc)

goes_by : (first : List ℕ) (r : Run) → KeepsPair first r → (o : Option Command) → command_of r.words ≡ o → Goes first r
goes_by first r keeps None is = inr (inr (keeps.usage (λ b asks. let e : None ≡ Some (Equiv b) = sym is ∙ asks in absurd cc)))
goes_by first r keeps (Some Agree) is = inr (inr (keeps.usage (λ b asks. let e = one_command r.words Agree (Equiv b) is asks in absurd cc)))
goes_by first r keeps (Some Recheck) is = inr (inr (keeps.usage (λ b asks. let e = one_command r.words Recheck (Equiv b) is asks in absurd cc)))
goes_by first r keeps (Some RecheckDepth) is = inr (inr (keeps.usage (λ b asks. let e = one_command r.words RecheckDepth (Equiv b) is asks in absurd cc)))
goes_by first r keeps (Some (Synth x)) is = inr (inr (keeps.usage (λ b asks. let e = one_command r.words (Synth x) (Equiv b) is asks in absurd cc)))
goes_by first r keeps (Some (LeastDepth x)) is = inr (inr (keeps.usage (λ b asks. let e = one_command r.words (LeastDepth x) (Equiv b) is asks in absurd cc)))
goes_by first r keeps (Some (Improve f x)) is = inr (inr (keeps.usage (λ b asks. let e = one_command r.words (Improve f x) (Equiv b) is asks in absurd cc)))
goes_by first r keeps (Some (Gen n x)) is = inr (inr (keeps.usage (λ b asks. let e = one_command r.words (Gen n x) (Equiv b) is asks in absurd cc)))
goes_by first r keeps (Some (Equiv budget)) is = elim (cases_lt most_of_netlist (length first)) [
  | inl long ↦ inr (inl (keeps.too_long budget is long))
  | inr within ↦ inl (budget, keeps.compares budget is within)
]

goes : (first : List ℕ) (r : Run) → KeepsPair first r → Goes first r
goes first r keeps = goes_by first r keeps (command_of r.words) refl

-- ---- a command's promise has no status of usage, if its input is known and no call failed

answer_not_usage : (s : Status) → IsAnswerStatus s → s ≡ Usage → ⊥
answer_not_usage s (inl x) is = (let e : Done ≡ Usage = sym x ∙ is in absurd cc)
answer_not_usage s (inr (inl x)) is = (let e : Undecided ≡ Usage = sym x ∙ is in absurd cc)
answer_not_usage s (inr (inr x)) is = (let e : Refused ≡ Usage = sym x ∙ is in absurd cc)

refusal_not_usage : (x : Refusal) → IsRefusalStatus x.status ⊎ (x ≡ memory_refusal) → x.status ≡ Usage → ⊥
refusal_not_usage x (inl (inl y)) is = (let e : Malformed ≡ Usage = sym y ∙ is in absurd cc)
refusal_not_usage x (inl (inr (inl y))) is = (let e : Limit ≡ Usage = sym y ∙ is in absurd cc)
refusal_not_usage x (inl (inr (inr y))) is = (let e : Refused ≡ Usage = sym y ∙ is in absurd cc)
refusal_not_usage x (inr same) is = (let e : Memory ≡ Usage = sym (ap (λ (y : Refusal). y.status) same) ∙ is in absurd cc)

usage_is_answerable : (task : Task) → IsTask task → (r : Run) (input : List ℕ) → CommandPromise task r → HasInput task.reads r.source.bytes input → AllSteady r → r.status ≡ Usage → IsAnswerable task input
usage_is_answerable task well r input promise has steady is = record {
  within = λ beyond.
      let e : Limit ≡ Usage = sym (promise.too_long input has beyond steady.output.input).status_is ∙ is in absurd cc;
  sound = λ fault meets. refusal_not_usage (task.refusal fault) (well.refusals input fault meets)
      (sym (promise.refused input fault has meets steady.output.input).status_is ∙ is);
}

never_usage : (task : Task) → IsTask task → (r : Run) (input : List ℕ) → CommandPromise task r → HasInput task.reads r.source.bytes input → AllSteady r → r.status ≡ Usage → ⊥
never_usage task well r input promise has steady is =
    let got : Replies task r input = promise.complete input has (usage_is_answerable task well r input promise has steady is) steady in
    answer_not_usage (task.reply got.answer).status (well.replies got.answer) (sym got.stands.status_is ∙ is)

-- ---- what the promise of a comparison says of faults and of error lines

refused_status : (r : Run) → ReportsError r first_too_long ⊎ ReportsError r no_comparison → (r.status ≡ Limit) ⊎ (r.status ≡ Usage)
unfolding first_too_long
refused_status r (inl long) = inl long.status_is
refused_status r (inr none) = inr none.status_is

-- a status that no refusal before a comparison has
abbrev IsFaultStatus : Status → Type 0
IsFaultStatus s = (s ≡ ReadFault) ⊎ ((s ≡ WriteFault) ⊎ (s ≡ Memory))

no_fault : (s : Status) → (s ≡ Limit) ⊎ (s ≡ Usage) → IsFaultStatus s → ⊥
no_fault s (inl x) (inl is) = (let e : Limit ≡ ReadFault = sym x ∙ is in absurd cc)
no_fault s (inl x) (inr (inl is)) = (let e : Limit ≡ WriteFault = sym x ∙ is in absurd cc)
no_fault s (inl x) (inr (inr is)) = (let e : Limit ≡ Memory = sym x ∙ is in absurd cc)
no_fault s (inr x) (inl is) = (let e : Usage ≡ ReadFault = sym x ∙ is in absurd cc)
no_fault s (inr x) (inr (inl is)) = (let e : Usage ≡ WriteFault = sym x ∙ is in absurd cc)
no_fault s (inr x) (inr (inr is)) = (let e : Usage ≡ Memory = sym x ∙ is in absurd cc)

pub pair_reads : (first : List ℕ) → ReadsSteadily (KeepsPair first)
pair_reads first r keeps steady is = elim (goes first r keeps) [
  | inl runs ↦ task_reads (with_task runs.0 first) r runs.1 steady is
  | inr refused ↦ no_fault r.status (refused_status r refused) (inl is)
]

pub pair_writes : (first : List ℕ) → WritesSteadily (KeepsPair first)
pair_writes first r keeps out note is = elim (goes first r keeps) [
  | inl runs ↦ task_writes (with_task runs.0 first) r runs.1 out note is
  | inr refused ↦ no_fault r.status (refused_status r refused) (inr (inl is))
]

line_gone : (first : List ℕ) (words : List (List ℕ)) (i left o n : List ℕ) (s : Status) → Goes first (memory_run words i left o 0 n 0 s) → IsErrorStatus s → AreErrorLine o n
line_gone first words i left o n s (inl runs) error =
    line_of_promise (with_task runs.0 first) words i left o n s runs.1
    (λ is. never_usage (with_task runs.0 first) (with_is_task runs.0 first) (memory_run words i left o 0 n 0 s) i runs.1 refl
    (all_steady words i left o n s (λ out. let e : Usage ≡ Memory = sym is ∙ out in absurd cc)) is)
    error
line_gone first words i left o n s (inr (inl long)) error = line_of_error words i left o n s first_too_long long
line_gone first words i left o n s (inr (inr none)) error = line_of_error words i left o n s no_comparison none

pub pair_tells : (first : List ℕ) → TellsErrors (KeepsPair first)
pair_tells first words i left o n s keeps = line_gone first words i left o n s (goes first (memory_run words i left o 0 n 0 s) keeps)

memory_gone : (first : List ℕ) (words : List (List ℕ)) (i left o n : List ℕ) (s : Status) → Goes first (memory_run words i left o 0 n 0 s) → s ≡ Memory → n ≡ error_line memory
memory_gone first words i left o n s (inl runs) is = task_memory (with_task runs.0 first) words i left o n s runs.1 is
memory_gone first words i left o n s (inr refused) is =
    absurd (no_fault s (refused_status (memory_run words i left o 0 n 0 s) refused) (inr (inr is)))

pub pair_tells_memory : (first : List ℕ) → TellsOfMemory (KeepsPair first)
pair_tells_memory first words i left o n s keeps = memory_gone first words i left o n s (goes first (memory_run words i left o 0 n 0 s) keeps)

-- ---- answers

run_asks : (c f i o n : List ℕ) (s : Status) (budget : ℕ) (has : HasRun (KeepsPair f) c i o n s) → AsksToCompare c budget → AsksFor has.words (Equiv budget)
run_asks c f i o n s budget has asks = subst (λ (ws : List (List ℕ)). AsksFor ws (Equiv budget)) (asked_words c has.words has.are_words asks.text) asks.words

keeps_compared : (c f i o n : List ℕ) (s : Status) (budget : ℕ) (has : HasRun (KeepsPair f) c i o n s) → AsksToCompare c budget → length f ≤ most_of_netlist → CommandPromise (with_task budget f) (memory_run has.words i has.left o 0 n 0 s)
keeps_compared c f i o n s budget has asks within = has.keeps.compares budget (run_asks c f i o n s budget has asks) within

-- Two texts without a fault get their answer.
pub pair_answered : (c f i o o' n n' : List ℕ) (s ol nl budget : ℕ) (a : IsPairAnswered c f i o o' n n' s ol nl) →
    AsksToCompare c budget → length f ≤ most_of_netlist → IsAnswerable (with_task budget f) i →
    (s ≡ 6 → ⊥) → (s ≡ 7 → ⊥) → AnswersWith (with_task budget f) i a.out a.note s
pair_answered c f i o o' n n' s ol nl budget a asks within may room memory =
    let held : HasSteadyPair c f i a.out a.note a.ended = answered_steady (KeepsPair f) c i o o' n n' s ol nl a room memory in
    replied (with_task budget f) held.run.words i held.run.left a.out a.note i a.ended s a.status_is
    ((keeps_compared c f i a.out a.note a.ended budget held.run asks within).complete i refl may held.steady)

-- ---- refusals

-- A fault gets its error line.
pub pair_refused : (c f i o o' n n' : List ℕ) (s ol nl budget : ℕ) (fault : WithFault) (a : IsPairAnswered c f i o o' n n' s ol nl) →
    AsksToCompare c budget → length f ≤ most_of_netlist → MeetsWithFault f i fault →
    (s ≡ 6 → ⊥) → (s ≡ 7 → ⊥) → AreRefusal a.out a.note s (with_refusal fault)
pair_refused c f i o o' n n' s ol nl budget fault a asks within meets room memory =
    let held : HasSteadyPair c f i a.out a.note a.ended = answered_steady (KeepsPair f) c i o o' n n' s ol nl a room memory in
    refused_with held.run.words i held.run.left a.out a.note a.ended s (with_refusal fault) a.status_is
    ((keeps_compared c f i a.out a.note a.ended budget held.run asks within).refused i fault refl meets held.steady.output.input)

-- A second text that is too long gets the error line for this, and so does a first one.
pub second_too_long : (c f i o o' n n' : List ℕ) (s ol nl budget : ℕ) (a : IsPairAnswered c f i o o' n n' s ol nl) →
    AsksToCompare c budget → length f ≤ most_of_netlist → most_of_netlist < length i →
    (s ≡ 6 → ⊥) → (s ≡ 7 → ⊥) → AreRefusal a.out a.note s too_long_refusal
second_too_long c f i o o' n n' s ol nl budget a asks within long room memory =
    let held : HasSteadyPair c f i a.out a.note a.ended = answered_steady (KeepsPair f) c i o o' n n' s ol nl a room memory in
    refused_with held.run.words i held.run.left a.out a.note a.ended s too_long_refusal a.status_is
    ((keeps_compared c f i a.out a.note a.ended budget held.run asks within).too_long i refl long held.steady.output.input)

pub first_long : (c f i o o' n n' : List ℕ) (s ol nl budget : ℕ) (a : IsPairAnswered c f i o o' n n' s ol nl) →
    AsksToCompare c budget → most_of_netlist < length f →
    (s ≡ 6 → ⊥) → (s ≡ 7 → ⊥) → AreRefusal a.out a.note s first_too_long
first_long c f i o o' n n' s ol nl budget a asks long room memory =
    let held : HasSteadyPair c f i a.out a.note a.ended = answered_steady (KeepsPair f) c i o o' n n' s ol nl a room memory in
    refused_with held.run.words i held.run.left a.out a.note a.ended s first_too_long a.status_is
    (held.run.keeps.too_long budget (run_asks c f i a.out a.note a.ended budget held.run asks) long)

-- Words that ask for no comparison get the error line for this.
pub not_compared : (c f i o o' n n' : List ℕ) (s ol nl : ℕ) (a : IsPairAnswered c f i o o' n n' s ol nl) →
    ((budget : ℕ) → AsksFor (items_of c) (Equiv budget) → ⊥) →
    (s ≡ 6 → ⊥) → (s ≡ 7 → ⊥) → AreRefusal a.out a.note s no_comparison
not_compared c f i o o' n n' s ol nl a none room memory =
    let held : HasSteadyPair c f i a.out a.note a.ended = answered_steady (KeepsPair f) c i o o' n n' s ol nl a room memory in
    refused_with held.run.words i held.run.left a.out a.note a.ended s no_comparison a.status_is
    (held.run.keeps.usage (λ b asks. none b (items_ask c held.run.words (Equiv b) held.run.are_words asks)))
