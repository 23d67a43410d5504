-- How a run of `equiv` ends that also writes the miter, or of other words of the program.
use Rattle.std.specs.Prelude.{◌≡◌, ℕ, List, [], Bool, true, false, Option, Some, None, Ok, Err, refl, if◌then◌else◌}
use Rattle.std.proofs.Common.{sym, ◌∙◌, ap, subst, inl, inr}
use Rattle.std.proofs.lemmas.Grind.{common_steps}
use Rattle.std.specs.Option.{option_map}
use Rattle.command_line.specs.declared.command.Command.{Command}
use Rattle.command_line.specs.declared.command.WordsError.{WordsError}
use Rattle.command_line.specs.CommandLine.{command_of, or_usage, read}
use Rattle.frame_core.specs.declared.status.Status.{Status}
use Rattle.frame_core.specs.declared.status.Status.TheVariants as statuses
use Rattle.frame_core.specs.Outside.{PortState, Writes}
use Rattle.frame_core.specs.Performed.{IsPerformed}
use Rattle.frame_core.specs.Reported.{error_line, memory}
use Rattle.file_io.specs.Files.{FilesState, Files}
use Rattle.file_io.specs.Served.{Pass}
use Rattle.file_io.specs.ServedLaws.{still}
use Rattle.file_words.specs.declared.line.FileLine.{FileLine}
use Rattle.file_words.specs.Sorting.{Line, file_line}
use Rattle.file_words.specs.Lines.{line_value}
use Rattle.front_core.specs.Asked.{IsNotPlain, name_in, first_in, second_in}
use Rattle.front_core.specs.Front.{Promises, front_run, IsDone, Ending, IsEnding}
use Rattle.front_core.specs.Paired.{Compares}
use Rattle.cmd_miter.specs.MiterReport.{miter_task, miter_log_task}
use Rattle.cmd_miter.specs.MiterLaws.{miter_is_task, miter_log_is_task}
use Rattle.front_formula.specs.MiterAsked.{Picked, picked, fits_miter, budget_for, miter_budget}
use Rattle.front_formula.specs.MiterRuns.{WritesMiter, WritesMiterLog, miter_work, IsMiterWritten}
use Rattle.front_formula.specs.FormulaRuns.{IsServedOther}

-- ---- the two commands

pub text_written : (text : List ℕ) (source out note : Pass) (status : Status) →
    IsPerformed (miter_task text) source out note status → WritesMiter text source out note status
text_written text source out note status performed = performed.promise [] (miter_is_task text)

pub log_written : (budget : ℕ) (text : List ℕ) (source out note : Pass) (status : Status) →
    IsPerformed (miter_log_task budget text) source out note status → WritesMiterLog budget text source out note status
log_written budget text source out note status performed = performed.promise [] (miter_log_is_task budget text)

pub ruleset comparing = (common_steps, text_written, log_written)

-- ---- the budget

some_same : {T : Type 0} (a b : T) → Some a ≡ Some b → a ≡ b
some_same a b e = cc

one : {T : Type 0} (o : Option T) (a b : T) → o ≡ Some a → o ≡ Some b → a ≡ b
one o a b x y = some_same a b (sym x ∙ y)

none_some : {T : Type 0} (o : Option T) (a : T) → o ≡ None → o ≡ Some a → ⊥
none_some o a x y = let e : None ≡ Some a = sym x ∙ y in cc

asked : (o : Option Command) (c : Command) → Ok c ≡ or_usage o → o ≡ Some c
asked None c e = absurd cc
asked (Some d) c e = let same : c ≡ d = cc in ap (λ (x : Command). Some x) (sym same)

unasked : (o : Option Command) (e : WordsError) → Err e ≡ or_usage o → o ≡ None
unasked None e is = refl
unasked (Some d) e is = absurd cc

-- the files don't fit
pub budget_unfit : (p : Picked) (line : Line) (fitting : Bool) → fitting ≡ fits_miter p line → fitting ≡ false →
    None ≡ miter_budget p line
budget_unfit p line fitting is not =
    ap (λ (b : Bool). if b then budget_for (command_of p.own) line else None) (sym not ∙ is)

budget_is : (p : Picked) (line : Line) (fitting : Bool) (own : Option Command) (found : Option ℕ) →
    fitting ≡ fits_miter p line → fitting ≡ true → command_of p.own ≡ own → found ≡ budget_for own line →
    found ≡ miter_budget p line
budget_is p line fitting own found is holds own_is found_is =
    found_is ∙ ap (λ (o : Option Command). budget_for o line) (sym own_is)
    ∙ ap (λ (b : Bool). if b then budget_for (command_of p.own) line else None) (sym holds ∙ is)

-- the own words are none of a command
pub budget_unread : (p : Picked) (line : Line) (fitting : Bool) (e : WordsError) → fitting ≡ fits_miter p line →
    fitting ≡ true → Err e ≡ read p.own → None ≡ miter_budget p line
budget_unread p line fitting e is holds err = budget_is p line fitting None None is holds (unasked (command_of p.own) e err) refl

pub budget_read : (p : Picked) (line : Line) (fitting : Bool) (own : Command) (found : Option ℕ) →
    fitting ≡ fits_miter p line → fitting ≡ true → Ok own ≡ read p.own → found ≡ budget_for (Some own) line →
    found ≡ miter_budget p line
budget_read p line fitting own found is holds ok found_is =
    budget_is p line fitting (Some own) found is holds (asked (command_of p.own) own ok) found_is

pub ruleset budgets = (common_steps, budget_unfit, budget_unread, budget_read)

-- ---- the outputs

pub both_written : (compares : Compares) (budget : ℕ) (line : Line) (p : Picked)
    (first second formula log : Option (List ℕ)) (files : Files) (source out note : Pass) (status : Status) →
    first ≡ name_in (first_in line.operands) → second ≡ name_in (second_in line.operands) → formula ≡ p.formula →
    log ≡ p.log →
    ((all : List (List ℕ)) → IsDone line (miter_work compares budget first second formula log) (front_run all files source out note status)) →
    (words : List (List ℕ)) → IsMiterWritten compares budget line p (front_run words files source out note status)
both_written compares budget line p first second formula log files source out note status i k f l done words =
    subst (λ (x : Option (List ℕ)). IsDone line
    (miter_work compares budget x (name_in (second_in line.operands)) p.formula p.log) (front_run words files source out note status)) i
    (subst (λ (x : Option (List ℕ)). IsDone line
    (miter_work compares budget first x p.formula p.log) (front_run words files source out note status)) k
    (subst (λ (x : Option (List ℕ)). IsDone line
    (miter_work compares budget first second x p.log) (front_run words files source out note status)) f
    (subst (λ (x : Option (List ℕ)). IsDone line
    (miter_work compares budget first second formula x) (front_run words files source out note status)) l
    (done words))))

pub ruleset writing = (common_steps, both_written)

-- ---- a line

out_of_memory : (p : Promises) (words : List (List ℕ)) (state : FilesState) (source out note note' : PortState)
    (status : Status) → IsNotPlain words → Writes note note' (error_line memory) → status ≡ statuses.Memory →
    IsServedOther p (front_run words (state, state) (source, source) (out, out) (note, note') status)
out_of_memory p words state source out note note' status other writes is = inr (inr (record {
  other = other;
  reports = record { unchanged = still state; on_source = refl; on_out = refl; on_note = writes; status_is = is };
}))

pub line_memory : (p : Promises) (words : List (List ℕ)) (line : Line) (state : FilesState)
    (source out note note' : PortState) (status : Status) → Writes note note' (error_line memory) →
    status ≡ statuses.Memory → IsNotPlain words → file_line words ≡ Some line →
    IsServedOther p (front_run words (state, state) (source, source) (out, out) (note, note') status)
line_memory p words line state source out note note' status writes is other known =
    out_of_memory p words state source out note note' status other writes is

pub with_miter : (p : Promises) (words : List (List ℕ)) (line : Line) (own : Picked) (found : Option ℕ) (budget : ℕ)
    (files : Files) (source out note : Pass) (status : Status) → own ≡ picked line.words →
    found ≡ miter_budget own line → found ≡ Some budget →
    ((all : List (List ℕ)) → IsMiterWritten (p.compares budget) budget line own (front_run all files source out note status)) →
    IsNotPlain words → file_line words ≡ Some line →
    IsServedOther p (front_run words files source out note status)
with_miter p words line own found budget files source out note status own_is found_is some written other known = inl (record {
  line = line;
  budget = budget;
  asks = record {
    other = other;
    line_is = known;
    budget_is = ap (λ (x : Picked). miter_budget x line) (sym own_is) ∙ sym found_is ∙ some;
  };
  served = subst (λ (x : Picked). IsMiterWritten (p.compares budget) budget line x (front_run words files source out note status)) own_is
      (written words);
})

pub without_miter : (p : Promises) (words : List (List ℕ)) (line : Line) (own : Picked) (found : Option ℕ)
    (files : Files) (source out note : Pass) (status : Status) → own ≡ picked line.words →
    found ≡ miter_budget own line → found ≡ None →
    ((ending : Ending) × IsEnding p (front_run words files source out note status) ending) →
    IsNotPlain words → file_line words ≡ Some line →
    IsServedOther p (front_run words files source out note status)
without_miter p words line own found files source out note status own_is found_is none run other known = inr (inl (record {
  none = λ found_line budget asks.
      none_some (miter_budget (picked line.words) line) budget
      (ap (λ (x : Picked). miter_budget x line) (sym own_is) ∙ sym found_is ∙ none)
      (subst (λ (l : Line). miter_budget (picked l.words) l ≡ Some budget)
      (one (file_line words) found_line line asks.line_is known) asks.budget_is);
  served = run;
}))

pub ruleset lines = (common_steps, line_memory, with_miter, without_miter)

-- ---- words

pub words_memory : (p : Promises) (words : List (List ℕ)) (state : FilesState) (source out note note' : PortState)
    (status : Status) → Writes note note' (error_line memory) → status ≡ statuses.Memory → IsNotPlain words →
    IsServedOther p (front_run words (state, state) (source, source) (out, out) (note, note') status)
words_memory p words state source out note note' status writes is other =
    out_of_memory p words state source out note note' status other writes is

pub without_line : (p : Promises) (words : List (List ℕ)) (found : Option FileLine) (files : Files)
    (source out note : Pass) (status : Status) → option_map line_value found ≡ file_line words → found ≡ None →
    ((ending : Ending) × IsEnding p (front_run words files source out note status) ending) → IsNotPlain words →
    IsServedOther p (front_run words files source out note status)
without_line p words found files source out note status e is run other = inr (inl (record {
  none = λ line budget asks. none_some (file_line words) line (sym e ∙ ap (option_map line_value) is) asks.line_is;
  served = run;
}))

pub with_line : (p : Promises) (words : List (List ℕ)) (found : Option FileLine) (line : FileLine) (files : Files)
    (source out note : Pass) (status : Status) → option_map line_value found ≡ file_line words → found ≡ Some line →
    (IsNotPlain words → file_line words ≡ Some (line_value line) → IsServedOther p (front_run words files source out note status)) →
    IsNotPlain words → IsServedOther p (front_run words files source out note status)
with_line p words found line files source out note status e is served other =
    served other (sym e ∙ ap (option_map line_value) is)

pub ruleset others = (common_steps, words_memory, without_line, with_line)

pub plain_words : (p : Promises) (words : List (List ℕ)) (command : Command) (files : Files) (source out note : Pass)
    (status : Status) → Ok command ≡ read words →
    ((ending : Ending) × IsEnding p (front_run words files source out note status) ending) →
    IsServedOther p (front_run words files source out note status)
plain_words p words command files source out note status ok run = inr (inl (record {
  none = λ line budget asks. asks.other command (asked (command_of words) command ok);
  served = run;
}))

pub other_words : (p : Promises) (words : List (List ℕ)) (e : WordsError) (files : Files) (source out note : Pass)
    (status : Status) → Err e ≡ read words →
    (IsNotPlain words → IsServedOther p (front_run words files source out note status)) →
    IsServedOther p (front_run words files source out note status)
other_words p words e files source out note status err served =
    served (λ command asks. none_some (command_of words) command (unasked (command_of words) e err) asks)

pub ruleset programs = (common_steps, plain_words, other_words)
