-- How a run ends that writes a formula.
use Rattle.std.specs.Prelude.{◌≡◌, ℕ, List, [], ◌∷◌, Bool, true, false, Option, Some, None, refl, codes}
use Rattle.std.proofs.Common.{sym, ◌∙◌, ap, subst, inl, inr}
use Rattle.std.proofs.lemmas.Grind.{common_steps}
use Rattle.std.proofs.lemmas.Slice.Eq.{bytes_eq-Decides}
use Rattle.std.specs.Option.{option_map}
use Rattle.command_line.specs.CommandLine.{AsksFor, command_of}
use Rattle.frame_core.specs.declared.status.Status.{Status}
use Rattle.frame_core.specs.declared.status.Status.TheVariants as statuses
use Rattle.frame_core.specs.Outside.{PortState, Writes}
use Rattle.frame_core.specs.Reported.{error_line, usage, memory}
use Rattle.file_io.specs.Files.{FilesState, Files}
use Rattle.file_io.specs.Served.{Pass, IsApart, IsDelivered, IsRead}
use Rattle.file_io.specs.ServedLaws.{still}
use Rattle.file_words.specs.declared.line.FileLine.{FileLine}
use Rattle.file_words.specs.Sorting.{Line, file_line}
use Rattle.file_words.specs.Lines.{line_value}
use Rattle.front_core.specs.Asked.{IsNotPlain, name_in, first_in}
use Rattle.front_core.specs.Front.{Promises, front_run}
use Rattle.cmd_formula.specs.declared.words.FormulaWords.{FormulaWords}
use Rattle.cmd_formula.specs.WordValues.{asked_value}
use Rattle.cmd_formula.specs.Words.{Asked, part_or_first}
use Rattle.cmd_formula.specs.FormulaReport.{formula_task, log_task}
use Rattle.front_formula.specs.FormulaAsked.{AsksForPart, names_formula, part_asked, fits}
use Rattle.front_formula.specs.FormulaRuns.{Performs, reads_line, IsPartWritten, IsFormulaRun, IsServedOther, IsServedBy, IsServed}
use Rattle.front_formula.specs.Logged.{IsLogged}

-- ---- no part

some_same : {T : Type 0} (a b : T) → Some a ≡ Some b → a ≡ b
some_same a b e = cc

one : {T : Type 0} (o : Option T) (a b : T) → o ≡ Some a → o ≡ Some b → a ≡ b
one o a b x y = some_same a b (sym x ∙ y)

none_some : {T : Type 0} (o : Option T) (a : T) → o ≡ None → o ≡ Some a → ⊥
none_some o a x y = let e : None ≡ Some a = sym x ∙ y in cc

both : (b : Bool) → b ≡ true → b ≡ false → ⊥
both b is isnt = let e : true ≡ false = sym is ∙ isnt in cc

partless : (words : List (List ℕ)) (state : FilesState) (source out note note' : PortState) (status : Status) →
    ((line : Line) (asked : Asked) → AsksForPart words line asked → ⊥) →
    Writes note note' (error_line usage) → status ≡ statuses.Usage →
    IsFormulaRun (front_run words (state, state) (source, source) (out, out) (note, note') status)
partless words state source out note note' status none writes is = inr (inl (record {
  none = none;
  reports = record { unchanged = still state; on_source = refl; on_out = refl; on_note = writes; status_is = is };
}))

-- memory ran out
pub no_memory : (words : List (List ℕ)) (state : FilesState) (source out note note' : PortState) (status : Status) →
    Writes note note' (error_line memory) → status ≡ statuses.Memory →
    IsFormulaRun (front_run words (state, state) (source, source) (out, out) (note, note') status)
no_memory words state source out note note' status writes is =
    inr (inr (record { unchanged = still state; on_source = refl; on_out = refl; on_note = writes; status_is = is }))

pub line_no_memory : (line : Line) (state : FilesState) (source out note note' : PortState) (status : Status) →
    Writes note note' (error_line memory) → status ≡ statuses.Memory → (words : List (List ℕ)) →
    file_line words ≡ Some line →
    IsFormulaRun (front_run words (state, state) (source, source) (out, out) (note, note') status)
line_no_memory line state source out note note' status writes is words known = no_memory words state source out note note' status writes is

-- the words of a line ask for nothing
pub asks_nothing : (line : Line) (found : Option FormulaWords) (state : FilesState) (source out note note' : PortState)
    (status : Status) → option_map asked_value found ≡ part_asked line.words → found ≡ None →
    Writes note note' (error_line usage) → status ≡ statuses.Usage → (words : List (List ℕ)) →
    file_line words ≡ Some line →
    IsFormulaRun (front_run words (state, state) (source, source) (out, out) (note, note') status)
asks_nothing line found state source out note note' status e is writes status_is words known =
    partless words state source out note note' status
    (λ other asked asks. none_some (part_asked line.words) asked (sym e ∙ ap (option_map asked_value) is)
    (subst (λ (l : Line). part_asked l.words ≡ Some asked) (one (file_line words) other line asks.line_is known) asks.asked_is))
    writes status_is

-- or for files that don't fit
pub unfit_files : (line : Line) (found : Option FormulaWords) (own : FormulaWords) (state : FilesState)
    (source out note note' : PortState) (status : Status) → option_map asked_value found ≡ part_asked line.words →
    found ≡ Some own → fits line (asked_value own) ≡ false →
    Writes note note' (error_line usage) → status ≡ statuses.Usage → (words : List (List ℕ)) →
    file_line words ≡ Some line →
    IsFormulaRun (front_run words (state, state) (source, source) (out, out) (note, note') status)
unfit_files line found own state source out note note' status e is not writes status_is words known =
    partless words state source out note note' status
    (λ other asked asks.
    let same : other ≡ line = one (file_line words) other line asks.line_is known in
    let found_is : part_asked line.words ≡ Some (asked_value own) = sym e ∙ ap (option_map asked_value) is in
    let asked_too : part_asked line.words ≡ Some asked = subst (λ (l : Line). part_asked l.words ≡ Some asked) same asks.asked_is in
    let asked_is : asked ≡ asked_value own = one (part_asked line.words) asked (asked_value own) asked_too found_is in
    both (fits line (asked_value own))
    (subst (λ (a : Asked). fits line a ≡ true) asked_is (subst (λ (l : Line). fits l asked ≡ true) same asks.fits_in))
    not)
    writes status_is

-- ---- a part

pub part_served : (line : Line) (found : Option FormulaWords) (own : FormulaWords) (files : Files)
    (source out note : Pass) (status : Status) → option_map asked_value found ≡ part_asked line.words →
    found ≡ Some own → fits line (asked_value own) ≡ true →
    ((all : List (List ℕ)) → IsPartWritten line (asked_value own) (front_run all files source out note status)) →
    (words : List (List ℕ)) → file_line words ≡ Some line →
    IsFormulaRun (front_run words files source out note status)
part_served line found own files source out note status e is fitting written words known = inl (record {
  line = line;
  asked = asked_value own;
  asks = record {
    line_is = known;
    asked_is = sym e ∙ ap (option_map asked_value) is;
    fits_in = fitting;
  };
  served = written words;
})

pub ruleset line_runs = (common_steps, line_no_memory, asks_nothing, unfit_files, part_served)

-- the part, and the files by their names
pub part_written : (line : Line) (asked : Asked) (size : Option ℕ) (part : ℕ) (input output log : Option (List ℕ))
    (files : Files) (source out note : Pass) (status : Status) → size ≡ asked.size → part ≡ part_or_first asked.part →
    input ≡ name_in (first_in line.operands) → output ≡ name_in line.output → log ≡ asked.log →
    IsDelivered output (IsLogged log
    (IsRead input (IsApart (Performs (formula_task size part))))
    (IsRead input (IsApart (Performs (log_task size part))))) files source out note status →
    (words : List (List ℕ)) → IsPartWritten line asked (front_run words files source out note status)
part_written line asked size part input output log files source out note status s p i o l delivered words =
    subst (λ (x : Option ℕ). IsDelivered (name_in line.output) (IsLogged asked.log
    (reads_line line (formula_task x (part_or_first asked.part)))
    (reads_line line (log_task x (part_or_first asked.part)))) files source out note status) s
    (subst (λ (x : ℕ). IsDelivered (name_in line.output) (IsLogged asked.log
    (reads_line line (formula_task size x)) (reads_line line (log_task size x))) files source out note status) p
    (subst (λ (x : Option (List ℕ)). IsDelivered (name_in line.output) (IsLogged asked.log
    (IsRead x (IsApart (Performs (formula_task size part))))
    (IsRead x (IsApart (Performs (log_task size part))))) files source out note status) i
    (subst (λ (x : Option (List ℕ)). IsDelivered x (IsLogged asked.log
    (IsRead input (IsApart (Performs (formula_task size part))))
    (IsRead input (IsApart (Performs (log_task size part))))) files source out note status) o
    (subst (λ (x : Option (List ℕ)). IsDelivered output (IsLogged x
    (IsRead input (IsApart (Performs (formula_task size part))))
    (IsRead input (IsApart (Performs (log_task size part))))) files source out note status) l delivered))))

pub ruleset parts = (common_steps, part_written)

-- ---- words

pub no_line : (words : List (List ℕ)) (found : Option FileLine) (state : FilesState) (source out note note' : PortState)
    (status : Status) → option_map line_value found ≡ file_line words → found ≡ None →
    Writes note note' (error_line usage) → status ≡ statuses.Usage →
    IsFormulaRun (front_run words (state, state) (source, source) (out, out) (note, note') status)
no_line words found state source out note note' status e is writes status_is =
    partless words state source out note note' status
    (λ line asked asks. none_some (file_line words) line (sym e ∙ ap (option_map line_value) is) asks.line_is)
    writes status_is

pub some_line : (words : List (List ℕ)) (found : Option FileLine) (line : FileLine) (files : Files)
    (source out note : Pass) (status : Status) → option_map line_value found ≡ file_line words → found ≡ Some line →
    ((all : List (List ℕ)) → file_line all ≡ Some (line_value line) →
    IsFormulaRun (front_run all files source out note status)) →
    IsFormulaRun (front_run words files source out note status)
some_line words found line files source out note status e is served = served words (sym e ∙ ap (option_map line_value) is)

pub ruleset word_runs = (common_steps, no_memory, no_line, some_line)

-- ---- all

-- `formula` is no command of the program
not_a_command : (words : List (List ℕ)) → command_of (codes "formula" ∷ words) ≡ None
unfolding command_of
not_a_command words = refl

not_plain : (words : List (List ℕ)) → names_formula words ≡ true → IsNotPlain words
not_plain [] is command asks = absurd cc
not_plain (name ∷ words) is command asks =
    let same : name ≡ codes "formula" = (bytes_eq-Decides name (codes "formula")).0 is in
    none_some (command_of (codes "formula" ∷ words)) command (not_a_command words)
    (subst (λ (w : List ℕ). AsksFor (w ∷ words) command) same asks)

pub formula_run : (p : Promises) (words : List (List ℕ)) (named : Bool) (files : Files) (source out note : Pass)
    (status : Status) → named ≡ names_formula words → named ≡ true →
    IsFormulaRun (front_run words files source out note status) →
    IsServed p (front_run words files source out note status)
formula_run p words named files source out note status is holds run =
    subst (λ (b : Bool). IsServedBy b p (front_run words files source out note status)) (sym holds ∙ is)
    (not_plain words (sym is ∙ holds), run)

pub other_run : (p : Promises) (words : List (List ℕ)) (named : Bool) (files : Files) (source out note : Pass)
    (status : Status) → named ≡ names_formula words → named ≡ false →
    IsServedOther p (front_run words files source out note status) →
    IsServed p (front_run words files source out note status)
other_run p words named files source out note status is isnt run =
    subst (λ (b : Bool). IsServedBy b p (front_run words files source out note status)) (sym isnt ∙ is) run

pub ruleset runs = (common_steps, formula_run, other_run)
