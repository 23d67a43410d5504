-- What words ask for.
use Rattle.std.specs.Prelude.{◌≡◌, ℕ, ◌==◌, List, [], ◌∷◌, length, map, Bool, true, false, Option, Some, None, is_some, String, Vec, Result, Ok, Err}
use Rattle.std.specs.Global.{Global}
use Rattle.std.specs.Option.{option_map}
use Rattle.std.proofs.Common.{refl, sym, ap, ◌∙◌, subst, arith}
use Rattle.std.proofs.lemmas.Grind.{common_steps}
use Rattle.std.proofs.lemmas.List.{length-map}
use Rattle.command_line.specs.declared.command.Command.{Command}
use Rattle.command_line.specs.declared.command.WordsError.{WordsError}
use Rattle.command_line.specs.CommandLine.{command_of, or_usage}
use Rattle.file_words.specs.declared.line.FileLine.{FileLine}
use Rattle.file_words.specs.Sorting.{Line, file_line}
use Rattle.file_words.specs.Lines.{line_value}
use Rattle.front_core.specs.Asked.{IsNotPlain}
use Rattle.front_at.specs.AtAsked.{AsksForValues, AsksForNone, bits_for, at_in, fits}

-- ---- words that are read as a command, or as none

found : (o : Option Command) (c : Command) → or_usage o ≡ Ok c → o ≡ Some c
found None c e = absurd cc
found (Some d) c e = cc

nothing : (o : Option Command) (e : WordsError) → or_usage o ≡ Err e → o ≡ None
nothing None e is = refl
nothing (Some d) e is = absurd cc

pub some_command : (read : Result Command WordsError) (o : Option Command) (c : Command) → read ≡ or_usage o →
    read ≡ Ok c → true ≡ is_some o
some_command read o c holds is = sym (ap is_some (found o c (sym holds ∙ is)))

pub no_command : (read : Result Command WordsError) (o : Option Command) (e : WordsError) → read ≡ or_usage o →
    read ≡ Err e → false ≡ is_some o
no_command read o e holds is = sym (ap is_some (nothing o e (sym holds ∙ is)))

pub ruleset plains = (common_steps, some_command, no_command)

-- ---- the words of a line

pub no_word : (f : String Global → List ℕ) (words : List (String Global)) → words ≡ [] → None ≡ at_in (map f words)
no_word f words is = ap (λ (xs : List (String Global)). at_in (map f xs)) (sym is)

pub one_word : (f : String Global → List ℕ) (words options : List (String Global)) (name : String Global) →
    words ≡ name ∷ options → options ≡ [] → None ≡ at_in (map f words)
one_word f words options name is none =
    ap (λ (xs : List (String Global)). at_in (map f xs)) (sym (is ∙ ap (λ (xs : List (String Global)). name ∷ xs) none))

pub two_words : (f : String Global → List ℕ) (words options values : List (String Global)) (name option : String Global) →
    words ≡ name ∷ options → options ≡ option ∷ values → values ≡ [] → None ≡ at_in (map f words)
two_words f words options values name option is second none =
    ap (λ (xs : List (String Global)). at_in (map f xs)) (sym (is ∙ ap (λ (xs : List (String Global)). name ∷ xs)
    (second ∙ ap (λ (xs : List (String Global)). option ∷ xs) none)))

more_than_three : (f : String Global → List ℕ) (name option word : String Global) (rest : List (String Global)) →
    (length rest ≡ 0 → ⊥) → None ≡ at_in (map f (name ∷ option ∷ word ∷ rest))
more_than_three f name option word [] some = absurd (some refl)
more_than_three f name option word (x ∷ xs) some = refl

just_three : (f : String Global → List ℕ) (name option word : String Global) (rest : List (String Global)) →
    length rest ≡ 0 → bits_for (f name) (f option) (f word) ≡ at_in (map f (name ∷ option ∷ word ∷ rest))
just_three f name option word [] none = refl
just_three f name option word (x ∷ xs) none = absurd (omega arith)

three : (words options values rest : List (String Global)) (name option word : String Global) → words ≡ name ∷ options →
    options ≡ option ∷ values → values ≡ word ∷ rest → words ≡ name ∷ option ∷ word ∷ rest
three words options values rest name option word is second third =
    is ∙ ap (λ (xs : List (String Global)). name ∷ xs) (second ∙ ap (λ (xs : List (String Global)). option ∷ xs) third)

pub more_words : (f : String Global → List ℕ) (words options values rest : List (String Global)) (name option word : String Global) →
    words ≡ name ∷ options → options ≡ option ∷ values → values ≡ word ∷ rest → (length rest ≡ 0 → ⊥) →
    None ≡ at_in (map f words)
more_words f words options values rest name option word is second third some =
    more_than_three f name option word rest some
    ∙ ap (λ (xs : List (String Global)). at_in (map f xs)) (sym (three words options values rest name option word is second third))

pub three_words : (f : String Global → List ℕ) (words options values rest : List (String Global)) (name option word : String Global)
    (found : Option (List Bool)) → words ≡ name ∷ options → options ≡ option ∷ values → values ≡ word ∷ rest →
    length rest ≡ 0 → found ≡ bits_for (f name) (f option) (f word) → found ≡ at_in (map f words)
three_words f words options values rest name option word found is second third none read =
    read ∙ just_three f name option word rest none
    ∙ ap (λ (xs : List (String Global)). at_in (map f xs)) (sym (three words options values rest name option word is second third))

pub ruleset reading = (common_steps, no_word, one_word, two_words, more_words, three_words)

-- ---- files

pub as_many : (f : String Global → List ℕ) (files : List (String Global)) (count : ℕ) →
    (length files == count) ≡ (length (map f files) == count)
as_many f files count = ap (λ (n : ℕ). n == count) (sym (length-map files f))

pub ruleset counting = (common_steps, as_many)

-- ---- one line

some_same : {T : Type 0} (a b : T) → Some a ≡ Some b → a ≡ b
some_same a b e = cc

one : {T : Type 0} (o : Option T) (a b : T) → o ≡ Some a → o ≡ Some b → a ≡ b
one o a b x y = some_same a b (sym x ∙ y)

none_some : {T : Type 0} (o : Option T) (a : T) → o ≡ None → o ≡ Some a → ⊥
none_some o a x y = let e : None ≡ Some a = sym x ∙ y in cc

both : (b : Bool) → b ≡ true → b ≡ false → ⊥
both b is isnt = let e : true ≡ false = sym is ∙ isnt in cc

-- the words are none of a line
pub no_line : (words : List (List ℕ)) (found : Option FileLine) → option_map line_value found ≡ file_line words →
    found ≡ None → AsksForNone words
no_line words found e is = λ line asked asks. none_some (file_line words) line (sym e ∙ ap (option_map line_value) is) asks.line_is

known : (words : List (List ℕ)) (found : Option FileLine) (line : FileLine) →
    option_map line_value found ≡ file_line words → found ≡ Some line → file_line words ≡ Some (line_value line)
known words found line e is = sym e ∙ ap (option_map line_value) is

-- the words of the line ask for nothing
pub no_question : (words : List (List ℕ)) (found : Option FileLine) (line : FileLine) (read : Option (Vec Bool Global)) →
    option_map line_value found ≡ file_line words → found ≡ Some line →
    option_map (λ (bits : Vec Bool Global). bits.items) read ≡ at_in (line_value line).words →
    read ≡ None → AsksForNone words
no_question words found line read e is holds none = λ other asked asks.
    none_some (at_in (line_value line).words) asked
    (sym holds ∙ ap (option_map (λ (bits : Vec Bool Global). bits.items)) none)
    (subst (λ (l : Line). at_in l.words ≡ Some asked)
    (one (file_line words) other (line_value line) asks.line_is (known words found line e is)) asks.bits_is)

-- or for files that don't fit
pub unfit : (words : List (List ℕ)) (found : Option FileLine) (line : FileLine) (fit : Bool) →
    option_map line_value found ≡ file_line words → found ≡ Some line → fit ≡ fits (line_value line) → fit ≡ false →
    AsksForNone words
unfit words found line fit e is holds not = λ other asked asks.
    both (fits (line_value line))
    (subst (λ (l : Line). fits l ≡ true)
    (one (file_line words) other (line_value line) asks.line_is (known words found line e is)) asks.fits_in)
    (sym holds ∙ not)

-- they ask for this
pub question : (words : List (List ℕ)) (found : Option FileLine) (line : FileLine) (read : Option (Vec Bool Global))
    (bits : Vec Bool Global) (fit : Bool) → IsNotPlain words → option_map line_value found ≡ file_line words →
    found ≡ Some line → option_map (λ (bits : Vec Bool Global). bits.items) read ≡ at_in (line_value line).words →
    read ≡ Some bits → fit ≡ fits (line_value line) → fit ≡ true → AsksForValues words (line_value line) bits.items
question words found line read bits fit other e is holds some fitting fit_is = record {
  other = other;
  line_is = known words found line e is;
  bits_is = sym holds ∙ ap (option_map (λ (bits : Vec Bool Global). bits.items)) some;
  fits_in = sym fitting ∙ fit_is;
}

pub ruleset asking = (common_steps, no_line, no_question, unfit, question)

-- ---- command lines as they are

some_is : {T : Type 0} (o : Option T) (a : T) → o ≡ Some a → is_some o ≡ false → ⊥
some_is o a is not = let e : true ≡ false = sym (ap is_some is) ∙ not in cc

none_is : {T : Type 0} (o : Option T) → is_some o ≡ true → ((a : T) → o ≡ Some a → ⊥) → ⊥
none_is None is none = let e : false ≡ true = is in cc
none_is (Some a) is none = none a refl

pub not_plain : (words : List (List ℕ)) (plain : Bool) → plain ≡ is_some (command_of words) → plain ≡ false →
    IsNotPlain words
not_plain words plain holds not = λ command asks. some_is (command_of words) command asks (sym holds ∙ not)

pub plain_asks_none : (words : List (List ℕ)) (plain : Bool) → plain ≡ is_some (command_of words) → plain ≡ true →
    AsksForNone words
plain_asks_none words plain holds is = λ line asked asks. none_is (command_of words) (sym holds ∙ is) asks.other

pub ruleset plainness = (common_steps, not_plain, plain_asks_none)
