-- How a run of the front ends.
use Rattle.std.specs.Prelude.{◌≡◌, ℕ, List, true, false, Option, Some, None, Ok, Err, refl}
use Rattle.std.proofs.Common.{sym, ◌∙◌, subst}
use Rattle.std.proofs.lemmas.Grind.{common_steps}
use Rattle.std.specs.Option.{option_map}
use Rattle.command_line.specs.declared.command.Command.{Command}
use Rattle.command_line.specs.declared.command.WordsError.{WordsError}
use Rattle.command_line.specs.CommandLine.{read}
use Rattle.frame_core.specs.declared.status.Status.{Status}
use Rattle.frame_core.specs.declared.status.Status.TheVariants as statuses
use Rattle.frame_core.specs.Outside.{PortState, Writes}
use Rattle.frame_core.specs.Reported.{error_line, usage, memory}
use Rattle.frame_core.specs.Run.{run_of}
use Rattle.file_io.specs.Files.{FilesState, Files}
use Rattle.file_io.specs.Served.{Pass, Does, IsApart, IsDelivered, IsRead}
use Rattle.file_io.specs.ServedLaws.{still}
use Rattle.file_words.specs.declared.line.FileLine.{FileLine}
use Rattle.file_words.specs.Sorting.{Line, file_line}
use Rattle.file_words.specs.Lines.{line_value}
use Rattle.front_core.specs.Asked.{fits, IsNotPlain, AsksWithFiles, name_in, first_in, second_in, pair_budget}
use Rattle.front_core.specs.Front.{Promises, front_run, IsDone, IsServedLine, Ending, Plain, WithFiles, Idle, OutOfMemory, IsEnding, over, runs}
use Rattle.front_core.specs.Certified.{IsCertified}
use Rattle.front_core.specs.Paired.{IsPaired}
use Rattle.front_core.proofs.Words.{asked, not_asked, line_of, no_line_of, none_with_files, too_many_files, none_without_line}

-- the words are reported, and nothing else happened
idle : (p : Promises) (words : List (List ℕ)) (state : FilesState) (source out note note' : PortState) (status : Status) →
    IsNotPlain words → ((command : Command) (line : Line) → AsksWithFiles words command line → ⊥) →
    Writes note note' (error_line usage) → status ≡ statuses.Usage →
    (ending : Ending) × IsEnding p (front_run words (state, state) (source, source) (out, out) (note, note') status) ending
idle p words state source out note note' status other none writes is = (
  Idle,
  record {
    other = other;
    none = none;
    reports = record { unchanged = still state; on_source = refl; on_out = refl; on_note = writes; status_is = is };
  },
)

-- ---- a line

pub no_command : (p : Promises) (line : Line) (e : WordsError) (state : FilesState) (source out note note' : PortState)
    (status : Status) → Err e ≡ read line.words → Writes note note' (error_line usage) → status ≡ statuses.Usage →
    (words : List (List ℕ)) → IsNotPlain words → file_line words ≡ Some line →
    (ending : Ending) × IsEnding p (front_run words (state, state) (source, source) (out, out) (note, note') status) ending
no_command p line e state source out note note' status err writes is words other known =
    idle p words state source out note note' status other (none_with_files words line e known err) writes is

pub many_files : (p : Promises) (line : Line) (own : Command) (state : FilesState) (source out note note' : PortState)
    (status : Status) → Ok own ≡ read line.words → fits own line ≡ false → Writes note note' (error_line usage) →
    status ≡ statuses.Usage → (words : List (List ℕ)) → IsNotPlain words → file_line words ≡ Some line →
    (ending : Ending) × IsEnding p (front_run words (state, state) (source, source) (out, out) (note, note') status) ending
many_files p line own state source out note note' status ok not writes is words other known =
    idle p words state source out note note' status other (too_many_files words line own known ok not) writes is

pub with_one : (p : Promises) (line : Line) (own : Command) (budget : Option ℕ) (input : Option (List ℕ)) (files : Files)
    (source out note : Pass) (status : Status) → Ok own ≡ read line.words → fits own line ≡ true →
    budget ≡ pair_budget own line.operands → budget ≡ None → input ≡ name_in (first_in line.operands) →
    ((all : List (List ℕ)) → IsDone line (IsRead input (IsApart (runs (over p.keeps p.keeps_named input) line.words))) (front_run all files source out note status)) →
    (words : List (List ℕ)) → IsNotPlain words → file_line words ≡ Some line →
    (ending : Ending) × IsEnding p (front_run words files source out note status) ending
with_one p line own budget input files source out note status ok fitting asked_for none i done words other known = (
  WithFiles,
  record {
    command = own;
    line = line;
    asks = record { other = other; line_is = known; asks = asked line.words own ok; fits_in = fitting };
    served = subst (λ (b : Option ℕ). IsServedLine p b line (front_run words files source out note status)) (sym none ∙ asked_for)
        (subst (λ (x : Option (List ℕ)). IsDone line (IsRead x (IsApart (runs (over p.keeps p.keeps_named x) line.words))) (front_run words files source out note status)) i
        (done words));
  },
)

pub with_pair : (p : Promises) (line : Line) (own : Command) (asked_budget : Option ℕ) (budget : ℕ)
    (first second : Option (List ℕ)) (files : Files)
    (source out note : Pass) (status : Status) → Ok own ≡ read line.words → fits own line ≡ true →
    asked_budget ≡ pair_budget own line.operands → asked_budget ≡ Some budget →
    first ≡ name_in (first_in line.operands) → second ≡ name_in (second_in line.operands) →
    ((all : List (List ℕ)) → IsDone line (IsPaired first second (p.compares budget)) (front_run all files source out note status)) →
    (words : List (List ℕ)) → IsNotPlain words → file_line words ≡ Some line →
    (ending : Ending) × IsEnding p (front_run words files source out note status) ending
with_pair p line own asked_budget budget first second files source out note status ok fitting asked_for some f s done words other known = (
  WithFiles,
  record {
    command = own;
    line = line;
    asks = record { other = other; line_is = known; asks = asked line.words own ok; fits_in = fitting };
    served = subst (λ (b : Option ℕ). IsServedLine p b line (front_run words files source out note status)) (sym some ∙ asked_for)
        (subst (λ (x : Option (List ℕ)). IsDone line (IsPaired (name_in (first_in line.operands)) x (p.compares budget)) (front_run words files source out note status)) s
        (subst (λ (x : Option (List ℕ)). IsDone line (IsPaired x second (p.compares budget)) (front_run words files source out note status)) f
        (done words)));
  },
)

-- the outputs of a line, by their names
pub done_as : (line : Line) (does : Does) (output certificate : Option (List ℕ)) (files : Files) (source out note : Pass)
    (status : Status) → output ≡ name_in line.output → certificate ≡ name_in line.certificate →
    IsDelivered output (IsCertified certificate does) files source out note status →
    (words : List (List ℕ)) → IsDone line does (front_run words files source out note status)
done_as line does output certificate files source out note status o c delivered words =
    subst (λ (x : Option (List ℕ)). IsDelivered x (IsCertified (name_in line.certificate) does) files source out note status) o
    (subst (λ (x : Option (List ℕ)). IsDelivered output (IsCertified x does) files source out note status) c delivered)

pub ruleset outputs = (common_steps, done_as)

pub ruleset line_endings = (common_steps, no_command, many_files, with_one, with_pair)

-- ---- words

pub no_memory : (p : Promises) (words : List (List ℕ)) (state : FilesState) (source out note note' : PortState)
    (status : Status) → Writes note note' (error_line memory) → status ≡ statuses.Memory → IsNotPlain words →
    (ending : Ending) × IsEnding p (front_run words (state, state) (source, source) (out, out) (note, note') status) ending
no_memory p words state source out note note' status writes is other = (
  OutOfMemory,
  record {
    other = other;
    reports = record { unchanged = still state; on_source = refl; on_out = refl; on_note = writes; status_is = is };
  },
)

pub no_line : (p : Promises) (words : List (List ℕ)) (found : Option FileLine) (state : FilesState)
    (source out note note' : PortState) (status : Status) → option_map line_value found ≡ file_line words →
    found ≡ None → Writes note note' (error_line usage) → status ≡ statuses.Usage → IsNotPlain words →
    (ending : Ending) × IsEnding p (front_run words (state, state) (source, source) (out, out) (note, note') status) ending
no_line p words found state source out note note' status e is writes status_is other =
    idle p words state source out note note' status other (none_without_line words (no_line_of words found e is)) writes status_is

pub some_line : (p : Promises) (words : List (List ℕ)) (found : Option FileLine) (line : FileLine) (files : Files)
    (source out note : Pass) (status : Status) → option_map line_value found ≡ file_line words → found ≡ Some line →
    ((all : List (List ℕ)) → IsNotPlain all → file_line all ≡ Some (line_value line) →
    (ending : Ending) × IsEnding p (front_run all files source out note status) ending) → IsNotPlain words →
    (ending : Ending) × IsEnding p (front_run words files source out note status) ending
some_line p words found line files source out note status e is served other = served words other (line_of words found line e is)

pub ruleset word_endings = (common_steps, no_memory, no_line, some_line)

-- ---- all

pub plain_words : (p : Promises) (words : List (List ℕ)) (own : Command) (state : FilesState) (source out note : Pass)
    (status : Status) → Ok own ≡ read words → p.keeps (run_of words source out note status) →
    (ending : Ending) × IsEnding p (front_run words (state, state) source out note status) ending
plain_words p words own state source out note status ok kept = (
  Plain,
  record {
    command = own;
    asks = asked words own ok;
    kept = kept;
    unchanged = still state;
  },
)

pub other_words : (p : Promises) (words : List (List ℕ)) (e : WordsError) (files : Files) (source out note : Pass)
    (status : Status) → Err e ≡ read words →
    (IsNotPlain words → (ending : Ending) × IsEnding p (front_run words files source out note status) ending) →
    (ending : Ending) × IsEnding p (front_run words files source out note status) ending
other_words p words e files source out note status err served = served (not_asked words e err)

pub ruleset endings = (common_steps, plain_words, other_words)
