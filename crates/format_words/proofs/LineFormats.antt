-- What words ask for, by their line.
use Rattle.std.specs.Prelude.{◌≡◌, ℕ, List, Bool, true, false, Option, Some, None, Vec, String}
use Rattle.std.specs.Global.{Global}
use Rattle.std.specs.Option.{option_map}
use Rattle.std.proofs.Common.{sym, ◌∙◌, ap, subst}
use Rattle.std.proofs.lemmas.Bool.{cond-true, cond-false}
use Rattle.std.proofs.lemmas.Grind.{common_steps}
use Rattle.command_line.specs.CommandLine.{spelled}
use Rattle.file_words.specs.declared.line.FileLine.{FileLine}
use Rattle.file_words.specs.Sorting.{Line, file_line}
use Rattle.file_words.specs.Lines.{line_value}
use Rattle.format_words.specs.declared.asking.FormatsAsked.{FormatsAsked}
use Rattle.format_words.specs.declared.asking.FormatsAsked.TheVariants.{Own}
use Rattle.format_words.specs.FormatsAsked.{asked_in, asked_on, asked_of, rebuilds, rebuilt, plain_in, plain_on, plain_words}
use Rattle.format_words.specs.WordsOf.{words_of}

-- ---- a line

pub unchanged : (asked : FormatsAsked) (line : Line) (changes : Bool) → asked ≡ asked_in line.words line.operands →
    changes ≡ rebuilds asked line.words → changes ≡ false → (raw : List (List ℕ)) →
    words_of raw None ≡ plain_in (asked_in line.words line.operands) raw line
unchanged asked line changes is test isnt raw =
    subst (λ (a : FormatsAsked). raw ≡ plain_in a raw line) is
    (sym (cond-false (rebuilds asked line.words) (rebuilt asked line) raw (sym test ∙ isnt)))

pub changed : (asked : FormatsAsked) (line : Line) (changes : Bool) (words : Vec (String Global) Global) →
    asked ≡ asked_in line.words line.operands → changes ≡ rebuilds asked line.words → changes ≡ true →
    spelled words ≡ rebuilt asked line → (raw : List (List ℕ)) →
    words_of raw (Some words) ≡ plain_in (asked_in line.words line.operands) raw line
changed asked line changes words is test holds same raw =
    subst (λ (a : FormatsAsked). spelled words ≡ plain_in a raw line) is
    (same ∙ sym (cond-true (rebuilds asked line.words) (rebuilt asked line) raw (sym test ∙ holds)))

pub ruleset lines = (common_steps, unchanged, changed)

-- ---- words

line_is : (words : List (List ℕ)) (found : Option FileLine) (line : FileLine) → option_map line_value found ≡ file_line words →
    found ≡ Some line → file_line words ≡ Some (line_value line)
line_is words found line e is = sym e ∙ ap (option_map line_value) is

none_is : (words : List (List ℕ)) (found : Option FileLine) → option_map line_value found ≡ file_line words →
    found ≡ None → file_line words ≡ None
none_is words found e is = sym e ∙ ap (option_map line_value) is

pub none_asked : (words : List (List ℕ)) (found : Option FileLine) → option_map line_value found ≡ file_line words →
    found ≡ None → Own ≡ asked_of words
none_asked words found e is = ap asked_on (sym (none_is words found e is))

pub none_words : (words : List (List ℕ)) (found : Option FileLine) → option_map line_value found ≡ file_line words →
    found ≡ None → words_of words None ≡ plain_words words
none_words words found e is = ap (λ (o : Option Line). plain_on o words) (sym (none_is words found e is))

pub line_asked : (words : List (List ℕ)) (found : Option FileLine) (line : FileLine) (asked : FormatsAsked) →
    option_map line_value found ≡ file_line words → found ≡ Some line →
    asked ≡ asked_in (line_value line).words (line_value line).operands → asked ≡ asked_of words
line_asked words found line asked e is same = same ∙ ap asked_on (sym (line_is words found line e is))

pub line_words : (words : List (List ℕ)) (found : Option FileLine) (line : FileLine) (others : Option (Vec (String Global) Global)) →
    option_map line_value found ≡ file_line words → found ≡ Some line →
    ((raw : List (List ℕ)) → words_of raw others ≡ plain_in (asked_in (line_value line).words (line_value line).operands) raw (line_value line)) →
    words_of words others ≡ plain_words words
line_words words found line others e is each =
    each words ∙ ap (λ (o : Option Line). plain_on o words) (sym (line_is words found line e is))

pub ruleset reading = (common_steps, none_asked, none_words, line_asked, line_words)
