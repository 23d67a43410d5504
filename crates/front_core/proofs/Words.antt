-- What words ask for, or don't.
use Rattle.std.specs.Prelude.{◌≡◌, ℕ, if◌then◌else◌, nat_le, List, length, map, Bool, true, false, Option, Some, None, Ok, Err, String}
use Rattle.std.specs.Global.{Global}
use Rattle.std.proofs.lemmas.Grind.{common_steps}
use Rattle.std.proofs.lemmas.List.{length-map}
use Rattle.std.proofs.Common.{sym, ◌∙◌, ap, subst}
use Rattle.std.specs.Option.{option_map}
use Rattle.command_line.specs.declared.command.Command.{Command}
use Rattle.command_line.specs.declared.command.WordsError.{WordsError}
use Rattle.command_line.specs.CommandLine.{command_of, or_usage, read, AsksFor}
use Rattle.file_words.specs.declared.line.FileLine.{FileLine}
use Rattle.file_words.specs.Sorting.{Line, file_line}
use Rattle.file_words.specs.Lines.{line_value}
use Rattle.front_core.specs.Asked.{fits, AsksWithFiles}

-- words ask for one command, and have one line
pub one_command : (o : Option Command) (a b : Command) → o ≡ Some a → o ≡ Some b → a ≡ b
one_command o a b x y = some_same a b (sym x ∙ y)
  where
    some_same : (c d : Command) → Some c ≡ Some d → c ≡ d
    some_same c d e = cc

pub one_line : (o : Option Line) (a b : Line) → o ≡ Some a → o ≡ Some b → a ≡ b
one_line o a b x y = some_same a b (sym x ∙ y)
  where
    some_same : (c d : Line) → Some c ≡ Some d → c ≡ d
    some_same c d e = cc

usage_none : (o : Option Command) (c : Command) → Ok c ≡ or_usage o → o ≡ Some c
usage_none None c e = absurd cc
usage_none (Some d) c e = let same : c ≡ d = cc in ap (λ (x : Command). Some x) (sym same)

pub asked : (words : List (List ℕ)) (c : Command) → Ok c ≡ read words → AsksFor words c
asked words c e = usage_none (command_of words) c e

none_asked : (o : Option Command) (e : WordsError) (c : Command) → Err e ≡ or_usage o → o ≡ Some c → ⊥
none_asked o e c is other =
    let bad : Err e ≡ or_usage (Some c) = is ∙ ap or_usage other in
    cc

pub not_asked : (words : List (List ℕ)) (e : WordsError) → Err e ≡ read words → (c : Command) → AsksFor words c → ⊥
not_asked words e is c asks = none_asked (command_of words) e c is asks

-- the line of words whose program is known
pub line_of : (words : List (List ℕ)) (found : Option FileLine) (line : FileLine) →
    option_map line_value found ≡ file_line words → found ≡ Some line → file_line words ≡ Some (line_value line)
line_of words found line e is = sym e ∙ ap (option_map line_value) is

pub no_line_of : (words : List (List ℕ)) (found : Option FileLine) →
    option_map line_value found ≡ file_line words → found ≡ None → file_line words ≡ None
no_line_of words found e is = sym e ∙ ap (option_map line_value) is

-- words whose line asks for no command ask for none with files
pub none_with_files : (words : List (List ℕ)) (line : Line) (e : WordsError) → file_line words ≡ Some line →
    Err e ≡ read line.words → (command : Command) (other : Line) → AsksWithFiles words command other → ⊥
none_with_files words line e is err command other asks =
    not_asked line.words e err command
    (subst (λ (l : Line). AsksFor l.words command) (one_line (file_line words) other line asks.line_is is) asks.asks)

-- nor do words that name too many files
both : (b : Bool) → b ≡ true → b ≡ false → ⊥
both b is isnt = let e : true ≡ false = sym is ∙ isnt in cc

pub too_many_files : (words : List (List ℕ)) (line : Line) (own : Command) → file_line words ≡ Some line →
    Ok own ≡ read line.words → fits own line ≡ false → (command : Command) (other : Line) →
    AsksWithFiles words command other → ⊥
too_many_files words line own is ok not command other asks =
    let same : other ≡ line = one_line (file_line words) other line asks.line_is is in
    let asked_for : AsksFor line.words command = subst (λ (l : Line). AsksFor l.words command) same asks.asks in
    let fitting : fits command line ≡ true = subst (λ (l : Line). fits command l ≡ true) same asks.fits_in in
    let command_is : command ≡ own = one_command (command_of line.words) command own asked_for (asked line.words own ok) in
    both (fits own line) (subst (λ (c : Command). fits c line ≡ true) command_is fitting) not

no_line : (o : Option Line) (line : Line) → o ≡ None → o ≡ Some line → ⊥
no_line o line x y = let e : None ≡ Some line = sym x ∙ y in cc

-- nor do words without a line
pub none_without_line : (words : List (List ℕ)) → file_line words ≡ None → (command : Command) (other : Line) →
    AsksWithFiles words command other → ⊥
none_without_line words none command other asks = no_line (file_line words) other none asks.line_is

-- as many operands as words of them
counted : {A : Type 0} (f : A → List ℕ) (files : List A) → length (map f files) ≡ length files
counted f files = length-map files f

pub as_many : (f : String Global → List ℕ) (files : List (String Global)) (most : ℕ) →
    nat_le (length files) most ≡ nat_le (length (map f files)) most
as_many f files most = ap (λ (n : ℕ). nat_le n most) (sym (counted f files))

-- a test by the number of operands, and then another
pub unfit : (few rest : Bool) → few ≡ false → false ≡ (if few then rest else false)
unfit few rest not = ap (λ (b : Bool). if b then rest else false) (sym not)

pub fit : (few rest result : Bool) → few ≡ true → result ≡ rest → result ≡ (if few then rest else false)
fit few rest result is fits_too = fits_too ∙ ap (λ (b : Bool). if b then rest else false) (sym is)

pub ruleset counting = (common_steps, as_many)
