-- What words ask for where a named file makes a difference, and what a run over such a file keeps.
use Rattle.std.specs.Prelude.{◌≡◌, ℕ, Bool, true, false, if◌then◌else◌, List, Option, Some, None, Ok, Err}
use Rattle.std.proofs.Common.{sym, ◌∙◌, ap, subst}
use Rattle.std.proofs.lemmas.Grind.{common_steps}
use Rattle.settings.specs.declared.improve.ImproveSettings.{ImproveSettings}
use Rattle.settings.specs.declared.synth.SynthSettings.{SynthSettings}
use Rattle.settings.specs.declared.methods.MethodChoice.TheVariants.{Auto}
use Rattle.settings.specs.Synth.{IsInRange}
use Rattle.command_line.specs.declared.command.Command.{Command}
use Rattle.command_line.specs.declared.command.Command.TheVariants.{Agree, Recheck, RecheckDepth, Synth, LeastDepth, Improve, Equiv, Gen}
use Rattle.command_line.specs.declared.command.WordsError.{WordsError}
use Rattle.command_line.specs.CommandLine.{command_of, or_usage, read, AsksFor, IsAskable, IsAsked}
use Rattle.frame_core.specs.Run.{Run}
use Rattle.frame_core.specs.Promise.{CommandPromise}
use Rattle.cmd_improve.specs.ImproveReport.{FormatAsked}
use Rattle.cmd_improve.specs.NamedReport.{named_task}
use Rattle.cmd_synth.specs.SynthReport.{synth_task}
use Rattle.chain_app.specs.KeepsPromises.{KeepsPromises}
use Rattle.front_app.specs.declared.named.Asked.{Asked}
use Rattle.front_app.specs.declared.named.Asked.TheVariants as asks
use Rattle.front_app.specs.Named.{KeepsNamed, AsksForNone, asked_in, IsAskedBy, names_method, with_method}

-- words ask for one command
some_same : (x y : Command) → Some x ≡ Some y → x ≡ y
some_same x y e = cc

one : (words : List (List ℕ)) (a b : Command) → AsksFor words a → AsksFor words b → a ≡ b
one words a b is_a is_b = some_same a b (sym is_a ∙ is_b)

usage_none : (o : Option Command) (c : Command) → Ok c ≡ or_usage o → o ≡ Some c
usage_none None c e = absurd cc
usage_none (Some d) c e = let same : c ≡ d = cc in ap (λ (x : Command). Some x) (sym same)

none_asked : (o : Option Command) (e : WordsError) (c : Command) → Err e ≡ or_usage o → o ≡ Some c → ⊥
none_asked o e c is other =
    let bad : Err e ≡ or_usage (Some c) = is ∙ ap or_usage other in
    cc

-- ---- the words

none_asked_by : (words : List (List ℕ)) (c : Command) → AsksFor words c
    → ((f : FormatAsked) (s : ImproveSettings) → c ≡ Improve f s → ⊥) → ((s : SynthSettings) → c ≡ Synth s → ⊥) → AsksForNone words
none_asked_by words c asks_it no_improve no_synth = record {
  no_improve = λ f s other. no_improve f s (one words c (Improve f s) asks_it other);
  no_synth = λ s other. no_synth s (one words c (Synth s) asks_it other);
}

in_command : (words : List (List ℕ)) (c : Command) → AsksFor words c → IsAskable c → IsAskedBy words (asked_in c)
in_command words Agree asks_it can = none_asked_by words Agree asks_it (λ f s same. cc) (λ s same. cc)
in_command words Recheck asks_it can = none_asked_by words Recheck asks_it (λ f s same. cc) (λ s same. cc)
in_command words RecheckDepth asks_it can = none_asked_by words RecheckDepth asks_it (λ f s same. cc) (λ s same. cc)
in_command words (Synth a) asks_it can = (asks_it, can)
in_command words (LeastDepth a) asks_it can = none_asked_by words (LeastDepth a) asks_it (λ f s same. cc) (λ s same. cc)
in_command words (Improve g a) asks_it can = (asks_it, can)
in_command words (Equiv n) asks_it can = none_asked_by words (Equiv n) asks_it (λ f s same. cc) (λ s same. cc)
in_command words (Gen n d) asks_it can = none_asked_by words (Gen n d) asks_it (λ f s same. cc) (λ s same. cc)

pub asked_read : (words : List (List ℕ)) (c : Command) (o : Option Asked) → Ok c ≡ read words → IsAskable c →
    o ≡ asked_in c → IsAskedBy words o
asked_read words c o is can same =
    subst (IsAskedBy words) (sym same) (in_command words c (usage_none (command_of words) c is) can)

pub none_read : (words : List (List ℕ)) (e : WordsError) → Err e ≡ read words → IsAskedBy words None
none_read words e is = record {
  no_improve = λ f s asks_it. none_asked (command_of words) e (Improve f s) is asks_it;
  no_synth = λ s asks_it. none_asked (command_of words) e (Synth s) is asks_it;
}

pub ruleset asking = (common_steps, asked_read, none_read)

-- the settings stay in their ranges
range_by : (named : Bool) (settings : SynthSettings) → IsInRange settings → IsInRange (if named then settings else record settings { method = Auto })
range_by true settings range = range
range_by false settings range = record {
  basis_from = range.basis_from;
  max_to = range.max_to;
  conflicts_from = range.conflicts_from;
  conflicts_to = range.conflicts_to;
  effort_to = range.effort_to;
}

pub range_with : (words : List (List ℕ)) (settings : SynthSettings) → IsInRange settings → IsInRange (with_method words settings)
range_with words settings range = range_by (names_method words) settings range

-- what is asked of each of the two
pub improve_asked : (words : List (List ℕ)) (o : Asked) (format : FormatAsked) (settings : ImproveSettings) → o ≡ asks.Improve format settings →
    IsAskedBy words (Some o) → AsksFor words (Improve format settings) × IsAsked format settings
improve_asked words o format settings is asks_it = subst (λ (x : Asked). IsAskedBy words (Some x)) is asks_it

pub synth_asked : (words : List (List ℕ)) (o : Asked) (settings : SynthSettings) → o ≡ asks.Synth settings →
    IsAskedBy words (Some o) → AsksFor words (Synth settings) × IsInRange settings
synth_asked words o settings is asks_it = subst (λ (x : Asked). IsAskedBy words (Some x)) is asks_it

pub improve_ready : (words : List (List ℕ)) (o : Asked) (format : FormatAsked) (settings : ImproveSettings) → o ≡ asks.Improve format settings →
    IsAskedBy words (Some o) → IsAsked format settings
improve_ready words o format settings is asks_it = (improve_asked words o format settings is asks_it).1

pub synth_ready : (words : List (List ℕ)) (o : Asked) (settings taken : SynthSettings) → o ≡ asks.Synth settings → taken ≡ with_method words settings →
    IsAskedBy words (Some o) → IsInRange taken
synth_ready words o settings taken is same asks_it =
    subst IsInRange (sym same) (range_with words settings (synth_asked words o settings is asks_it).1)

pub ruleset running = (common_steps, improve_ready, synth_ready)

-- ---- the run

pub passed : (r : Run) → IsAskedBy r.words None → KeepsPromises r → KeepsNamed r
passed r none kept = record {
  improves = λ format settings asks_it. absurd (none.no_improve format settings asks_it);
  synthesises = λ settings asks_it. absurd (none.no_synth settings asks_it);
  others = λ other. kept;
}

same_format : (f g : FormatAsked) (s t : ImproveSettings) → Improve f s ≡ Improve g t → f ≡ g
same_format f g s t e = cc

same_settings : (f g : FormatAsked) (s t : ImproveSettings) → Improve f s ≡ Improve g t → s ≡ t
same_settings f g s t e = cc

same_search : (s t : SynthSettings) → Synth s ≡ Synth t → s ≡ t
same_search s t e = cc

other_command : (f : FormatAsked) (s : ImproveSettings) (t : SynthSettings) → Improve f s ≡ Synth t → ⊥
other_command f s t e = cc

pub improved : (r : Run) (format : FormatAsked) (settings : ImproveSettings) → AsksFor r.words (Improve format settings) →
    CommandPromise (named_task format settings) r → KeepsNamed r
improved r format settings asks_it promise = record {
  improves = λ f s other.
      let same = one r.words (Improve format settings) (Improve f s) asks_it other in
      subst (λ (g : FormatAsked). CommandPromise (named_task g s) r) (same_format format f settings s same)
      (subst (λ (t : ImproveSettings). CommandPromise (named_task format t) r) (same_settings format f settings s same) promise);
  synthesises = λ s other. absurd (other_command format settings s (one r.words (Improve format settings) (Synth s) asks_it other));
  others = λ none. absurd (none.no_improve format settings asks_it);
}

pub synthesised : (r : Run) (settings : SynthSettings) → AsksFor r.words (Synth settings) →
    CommandPromise (synth_task (with_method r.words settings)) r → KeepsNamed r
synthesised r settings asks_it promise = record {
  improves = λ f s other. absurd (other_command f s settings (one r.words (Improve f s) (Synth settings) other asks_it));
  synthesises = λ s other.
      let same = same_search settings s (one r.words (Synth settings) (Synth s) asks_it other) in
      subst (λ (t : SynthSettings). CommandPromise (synth_task (with_method r.words t)) r) same promise;
  others = λ none. absurd (none.no_synth settings asks_it);
}

pub synthesised_by : (r : Run) (settings taken : SynthSettings) → AsksFor r.words (Synth settings) → taken ≡ with_method r.words settings →
    CommandPromise (synth_task taken) r → KeepsNamed r
synthesised_by r settings taken asks_it same promise =
    synthesised r settings asks_it (subst (λ (s : SynthSettings). CommandPromise (synth_task s) r) same promise)
