-- What words wish.
use Rattle.std.specs.Prelude.{◌≡◌, ℕ, List, Bool, true, false, if◌then◌else◌, Option, Some, None, Ok, Err, refl}
use Rattle.std.specs.Option.{option_map}
use Rattle.std.proofs.Common.{sym, ◌∙◌, ap, subst}
use Rattle.std.proofs.lemmas.Bool.{cond-true, cond-false}
use Rattle.std.proofs.lemmas.Grind.{common_steps}
use Rattle.op_basis.specs.Text.{bench_set}
use Rattle.command_line.specs.declared.command.Command.{Command}
use Rattle.command_line.specs.declared.command.Command.TheVariants.{Agree, Recheck, RecheckDepth, Synth, LeastDepth}
use Rattle.command_line.specs.declared.command.Command.TheVariants.{Improve, Equiv, Gen}
use Rattle.command_line.specs.declared.command.Format as asked_format
use Rattle.command_line.specs.declared.command.Format.TheVariants as command_formats
use Rattle.command_line.specs.declared.command.WordsError.{WordsError}
use Rattle.command_line.specs.CommandLine.{command_of, or_usage, read, spelled, IsAsked, IsAskable}
use Rattle.command_line.specs.WithinLaws.{within_members}
use Rattle.file_words.specs.declared.line.FileLine.{FileLine}
use Rattle.file_words.specs.Sorting.{Line, file_line}
use Rattle.file_words.specs.Lines.{line_value}
use Rattle.format_names.specs.declared.formats.NetFormat.TheVariants.{Blif, Bench, Aiger}
use Rattle.settings.specs.declared.improve.ImproveSettings.{ImproveSettings}
use Rattle.wish_names.specs.declared.wishes.Wishes.{Wishes}
use Rattle.wish_words.specs.declared.reading.WishedWords.{WishedWords}
use Rattle.wish_words.specs.Read.{wished_value}
use Rattle.wish_words.specs.WishWords.{wished_in}
use Rattle.improve_windows.specs.FitsLaws.{fits_bench}
use Rattle.improve_aiger.specs.AigerLaws.{and_set, fits_aiger}
use Rattle.cmd_formats.specs.AigerReport.{has_and_gates}
use Rattle.front_core.specs.Asked.{fits}
use Rattle.front_wish.specs.declared.asking.NetAsked.{NetAsked}
use Rattle.front_wish.specs.AskedWishes.{net_asked, format_asked, asked_in, IsReady}
use Rattle.front_wish.specs.AskedWishes.{Wish, wish_from, wish_by, with_words, wish_as, wish_on, wish_of}

-- ---- commands

-- the command of words that were read
usage_none : (o : Option Command) (c : Command) → Ok c ≡ or_usage o → o ≡ Some c
usage_none None c e = absurd cc
usage_none (Some d) c e = let same : c ≡ d = cc in ap (λ (x : Command). Some x) (sym same)

no_usage : (o : Option Command) (e : WordsError) → Err e ≡ or_usage o → o ≡ None
no_usage None e is = refl
no_usage (Some d) e is = absurd cc

some_same : {T : Type 0} (a b : T) → Some a ≡ Some b → a ≡ b
some_same a b e = cc

none_some : {A T : Type 0} (a : T) → None ≡ Some a → A
none_some a e = absurd cc

ready_at : (n asked : NetAsked) → Some asked ≡ Some n → IsReady asked.format asked.settings →
    IsReady n.format n.settings
ready_at n asked e is = subst (λ (x : NetAsked). IsReady x.format x.settings) (some_same asked n e) is

ready_if : (b : Bool) (n asked : NetAsked) → (b ≡ true → IsReady asked.format asked.settings) →
    (if b then Some asked else None) ≡ Some n → IsReady n.format n.settings
ready_if true n asked is e = ready_at n asked e (is refl)
ready_if false n asked is e = none_some n e

-- The settings of `improve` are in their ranges, and its basis fits the format.
ready_format : (format : asked_format.Format) (aiger : Bool) (s : ImproveSettings) (n : NetAsked) → IsAsked format s →
    format_asked format aiger s ≡ Some n → IsReady n.format n.settings
ready_format command_formats.Blif false s n is e =
    ready_at n (net_asked Blif s) e (record { range = is.range; basis = λ op has. refl })
ready_format command_formats.Blif true s n is e =
    ready_if (has_and_gates s.basis) n (net_asked Aiger s)
    (λ has. record { range = is.range; basis = fits_aiger s (within_members s.basis and_set has) }) e
ready_format command_formats.Bench false s n is e =
    ready_at n (net_asked Bench s) e
    (record { range = is.range; basis = fits_bench s (within_members s.basis bench_set is.basis) })
ready_format command_formats.Bench true s n is e = none_some n e

ready_of : (c : Command) (aiger : Bool) (n : NetAsked) → IsAskable c → asked_in c aiger ≡ Some n →
    IsReady n.format n.settings
ready_of (Improve format s) aiger n is e = ready_format format aiger s n is e
ready_of Agree aiger n is e = none_some n e
ready_of Recheck aiger n is e = none_some n e
ready_of RecheckDepth aiger n is e = none_some n e
ready_of (Synth s) aiger n is e = none_some n e
ready_of (LeastDepth s) aiger n is e = none_some n e
ready_of (Equiv budget) aiger n is e = none_some n e
ready_of (Gen blocks action) aiger n is e = none_some n e

-- ---- a line without wishes

pub unread : (line : Line) (wishes : Wishes) (aiger : Bool) (e : WordsError) → Err e ≡ read line.words →
    None ≡ wish_by line wishes aiger (command_of line.words)
unread line wishes aiger e is = ap (wish_by line wishes aiger) (sym (no_usage (command_of line.words) e is))

command_read : (line : Line) (wishes : Wishes) (aiger : Bool) (c : Command) → Ok c ≡ read line.words →
    wish_by line wishes aiger (Some c) ≡ wish_by line wishes aiger (command_of line.words)
command_read line wishes aiger c is = ap (wish_by line wishes aiger) (sym (usage_none (command_of line.words) c is))

pub unfit : (line : Line) (wishes : Wishes) (aiger : Bool) (c : Command) (fit : Bool) → Ok c ≡ read line.words →
    fit ≡ fits c line → fit ≡ false → None ≡ wish_by line wishes aiger (command_of line.words)
unfit line wishes aiger c fit is test isnt =
    sym (cond-false (fits c line) (wish_from line wishes (asked_in c aiger)) None (sym test ∙ isnt))
    ∙ command_read line wishes aiger c is

fitting : (line : Line) (wishes : Wishes) (aiger : Bool) (c : Command) (fit : Bool) (found : Option NetAsked) →
    Ok c ≡ read line.words → fit ≡ fits c line → fit ≡ true → found ≡ asked_in c aiger →
    wish_from line wishes found ≡ wish_by line wishes aiger (command_of line.words)
fitting line wishes aiger c fit found is test holds asked =
    ap (wish_from line wishes) asked
    ∙ sym (cond-true (fits c line) (wish_from line wishes (asked_in c aiger)) None (sym test ∙ holds))
    ∙ command_read line wishes aiger c is

pub unasked : (line : Line) (wishes : Wishes) (aiger : Bool) (c : Command) (fit : Bool) (found : Option NetAsked) →
    Ok c ≡ read line.words → fit ≡ fits c line → fit ≡ true → found ≡ asked_in c aiger → found ≡ None →
    None ≡ wish_by line wishes aiger (command_of line.words)
unasked line wishes aiger c fit found is test holds asked none =
    sym (ap (wish_from line wishes) none) ∙ fitting line wishes aiger c fit found is test holds asked

pub asked : (line : Line) (wishes : Wishes) (aiger : Bool) (c : Command) (fit : Bool) (found : Option NetAsked)
    (n : NetAsked) → Ok c ≡ read line.words → fit ≡ fits c line → fit ≡ true → found ≡ asked_in c aiger →
    found ≡ Some n → wish_from line wishes (Some n) ≡ wish_by line wishes aiger (command_of line.words)
asked line wishes aiger c fit found n is test holds same some =
    sym (ap (wish_from line wishes) some) ∙ fitting line wishes aiger c fit found is test holds same

pub ready : (aiger : Bool) (c : Command) (found : Option NetAsked) (n : NetAsked) → IsAskable c →
    found ≡ asked_in c aiger → found ≡ Some n → IsReady n.format n.settings
ready aiger c found n can same some = ready_of c aiger n can (sym same ∙ some)

pub ruleset asking = (common_steps, unread, unfit, unasked, asked, ready)

-- ---- a line

pub no_wish : (line : Line) (found : Option WishedWords) → option_map wished_value found ≡ wished_in line →
    found ≡ None → None ≡ wish_as line (wished_in line)
no_wish line found is none = ap (wish_as line) (sym (ap (option_map wished_value) none) ∙ is)

pub a_wish : (line plain : Line) (found : Option WishedWords) (wished : WishedWords) (wish : Option Wish) →
    option_map wished_value found ≡ wished_in line → found ≡ Some wished →
    plain ≡ with_words line (spelled wished.words) →
    wish ≡ wish_by plain wished.wishes wished.aiger (command_of plain.words) → wish ≡ wish_as line (wished_in line)
a_wish line plain found wished wish is some same by =
    by ∙ ap (λ (l : Line). wish_by l wished.wishes wished.aiger (command_of l.words)) same
    ∙ ap (wish_as line) (sym (ap (option_map wished_value) some) ∙ is)

pub ruleset lines = (common_steps, no_wish, a_wish)

-- ---- words

pub no_line : (words : List (List ℕ)) (found : Option FileLine) → option_map line_value found ≡ file_line words →
    found ≡ None → None ≡ wish_of words
unfolding wish_of
no_line words found is none = ap wish_on (sym (ap (option_map line_value) none) ∙ is)

pub a_line : (words : List (List ℕ)) (found : Option FileLine) (line : FileLine) (wish : Option Wish) →
    option_map line_value found ≡ file_line words → found ≡ Some line →
    wish ≡ wish_as (line_value line) (wished_in (line_value line)) → wish ≡ wish_of words
unfolding wish_of
a_line words found line wish is some by = by ∙ ap wish_on (sym (ap (option_map line_value) some) ∙ is)

pub ruleset words_of = (common_steps, no_line, a_line)
