-- How a run ends, by the formats that its words ask for.
use Rattle.std.specs.Prelude.{◌≡◌, ℕ, List, Option, Some, None, Ok, Err, Vec, String, refl}
use Rattle.std.specs.Global.{Global}
use Rattle.std.proofs.Common.{sym, ◌∙◌, ap, subst, inl, inr}
use Rattle.std.proofs.lemmas.Grind.{common_steps}
use Rattle.command_line.specs.declared.command.Command.{Command}
use Rattle.command_line.specs.declared.command.WordsError.{WordsError}
use Rattle.command_line.specs.CommandLine.{command_of, or_usage, read, spelled}
use Rattle.format_words.specs.declared.asking.FormatsAsked.{FormatsAsked}
use Rattle.format_words.specs.declared.asking.FormatsAsked.TheVariants.{Own}
use Rattle.format_words.specs.FormatsAsked.{asked_of, plain_words}
use Rattle.format_words.specs.WordsOf.{words_of}
use Rattle.frame_core.specs.declared.status.Status.{Status}
use Rattle.frame_core.specs.declared.status.Status.TheVariants as statuses
use Rattle.frame_core.specs.Outside.{PortState, Writes}
use Rattle.frame_core.specs.Reported.{error_line, memory}
use Rattle.file_io.specs.Files.{FilesState, Files}
use Rattle.file_io.specs.Served.{Pass}
use Rattle.file_io.specs.ServedLaws.{still}
use Rattle.front_core.specs.Front.{Promises, FrontRun, front_run, promised_by}
use Rattle.front_guide.specs.Guided.{IsGuided}
use Rattle.format_names.specs.declared.formats.NetFormat.{NetFormat}
use Rattle.format_names.specs.declared.formats.FormatPair.{FormatPair}
use Rattle.chain_app.specs.KeepsPromises.{KeepsPromises}
use Rattle.front_app.specs.declared.formats.CompareBy.{CompareBy}
use Rattle.front_app.specs.Comparison.{pair_of, KeepsComparison}
use Rattle.front_app.specs.Named.{KeepsNamed}
use Rattle.front_app.specs.Fronted.{formats_of, promises_of, IsFormatted, IsWishedOr, IsFrontedBy, IsFronted}

pub no_memory : (words : List (List ℕ)) (state : FilesState) (source out note note' : PortState) (status : Status) →
    Writes note note' (error_line memory) → status ≡ statuses.Memory →
    IsFormatted (front_run words (state, state) (source, source) (out, out) (note, note') status)
no_memory words state source out note note' status writes is =
    inl (record { unchanged = still state; on_source = refl; on_out = refl; on_note = writes; status_is = is })

fronted : (words others : List (List ℕ)) (asked : FormatsAsked) (files : Files) (source out note : Pass) (status : Status) →
    asked ≡ asked_of words → others ≡ plain_words words → IsGuided (formats_of asked) (promises_of asked) (front_run others files source out note status) →
    IsFormatted (front_run words files source out note status)
fronted words others asked files source out note status a w guided =
    inr (subst (λ (x : FormatsAsked). IsGuided (formats_of x) (promises_of x) (front_run (plain_words words) files source out note status)) a
    (subst (λ (ws : List (List ℕ)). IsGuided (formats_of asked) (promises_of asked) (front_run ws files source out note status)) w guided))

pub same_words : (words : List (List ℕ)) (found : Option (Vec (String Global) Global)) (asked : FormatsAsked) (files : Files)
    (source out note : Pass) (status : Status) → asked ≡ asked_of words → words_of words found ≡ plain_words words →
    found ≡ None → IsGuided (formats_of asked) (promises_of asked) (front_run words files source out note status) →
    IsFormatted (front_run words files source out note status)
same_words words found asked files source out note status a w none guided =
    fronted words words asked files source out note status a (ap (words_of words) (sym none) ∙ w) guided

pub other_words : (words : List (List ℕ)) (found : Option (Vec (String Global) Global)) (plain : Vec (String Global) Global)
    (asked : FormatsAsked) (files : Files) (source out note : Pass) (status : Status) → asked ≡ asked_of words →
    words_of words found ≡ plain_words words → found ≡ Some plain →
    IsGuided (formats_of asked) (promises_of asked) (front_run (spelled plain) files source out note status) →
    IsFormatted (front_run words files source out note status)
other_words words found plain asked files source out note status a w some guided =
    fronted words (spelled plain) asked files source out note status a (ap (words_of words) (sym some) ∙ w) guided

pair_whole : (formats : FormatPair) → pair_of formats.first formats.second ≡ formats
pair_whole formats = refl

pub in_first : (way : CompareBy) (formats : FormatPair) (first : NetFormat) (words : List (List ℕ)) (files : Files) (source out note : Pass) (status : Status) →
    formats.first ≡ first →
    IsGuided (pair_of first formats.second) (promised_by KeepsPromises KeepsNamed (KeepsComparison way (pair_of first formats.second))) (front_run words files source out note status) →
    IsGuided formats (promised_by KeepsPromises KeepsNamed (KeepsComparison way formats)) (front_run words files source out note status)
in_first way formats first words files source out note status is guided =
    subst (λ (p : FormatPair). IsGuided p (promised_by KeepsPromises KeepsNamed (KeepsComparison way p)) (front_run words files source out note status))
    (ap (λ (x : NetFormat). pair_of x formats.second) (sym is) ∙ pair_whole formats) guided

pub ruleset fronting = (common_steps, no_memory)

-- the formats that are known by types
pub guided_in : (first second own other : NetFormat) (p : Promises) (r : FrontRun) → own ≡ first → other ≡ second →
    IsGuided (pair_of own other) p r → IsGuided (pair_of first second) p r
guided_in first second own other p r f s guided =
    subst (λ (formats : FormatPair). IsGuided formats p r)
    (ap (λ (x : NetFormat). pair_of x other) f ∙ ap (λ (x : NetFormat). pair_of first x) s) guided

pub ruleset pairs = (common_steps, guided_in)

-- ---- by the command that the words are

by_command : (read_as : Option Command) (command : Command) (r : FrontRun) → Ok command ≡ or_usage read_as →
    IsGuided (formats_of Own) (promises_of Own) r → IsFrontedBy read_as r
by_command (Some other) command r is guided = guided
by_command None command r is guided = absurd cc

by_format : (read_as : Option Command) (problem : WordsError) (r : FrontRun) → Err problem ≡ or_usage read_as → IsWishedOr r → IsFrontedBy read_as r
by_format (Some other) problem r is formatted = absurd cc
by_format None problem r is formatted = formatted

-- words that are a command
pub as_they_are : (words : List (List ℕ)) (command : Command) (files : Files) (source out note : Pass) (status : Status) →
    Ok command ≡ read words → IsGuided (formats_of Own) (promises_of Own) (front_run words files source out note status) →
    IsFronted (front_run words files source out note status)
as_they_are words command files source out note status is guided =
    by_command (command_of words) command (front_run words files source out note status) is guided

-- all others
pub by_formats : (words : List (List ℕ)) (problem : WordsError) (files : Files) (source out note : Pass) (status : Status) →
    Err problem ≡ read words → IsWishedOr (front_run words files source out note status) →
    IsFronted (front_run words files source out note status)
by_formats words problem files source out note status is formatted =
    by_format (command_of words) problem (front_run words files source out note status) is formatted
