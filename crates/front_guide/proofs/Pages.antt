-- Words that ask for a page.
use Rattle.std.specs.Prelude.{◌≡◌, ℕ, List, Bool, true, Option, Some, None, Err, IfSome}
use Rattle.std.proofs.Common.{sym, ◌∙◌, ap}
use Rattle.std.proofs.lemmas.Grind.{common_steps}
use Rattle.command_line.specs.declared.command.Command.{Command}
use Rattle.command_line.specs.declared.command.WordsError.{WordsError}
use Rattle.command_line.specs.CommandLine.{command_of, or_usage, read}
use Rattle.front_core.specs.Asked.{IsNotPlain}
use Rattle.front_guide.specs.Words.{asks_for_page}

none_asked : (o : Option Command) (e : WordsError) (c : Command) → Err e ≡ or_usage o → o ≡ Some c → ⊥
none_asked o e c is other =
    let bad : Err e ≡ or_usage (Some c) = is ∙ ap or_usage other in
    cc

-- words that aren't read ask for nothing
not_plain : (words : List (List ℕ)) (e : WordsError) → Err e ≡ read words → IsNotPlain words
not_plain words e is command asks = none_asked (command_of words) e command is asks

pub if_refused : {A : Type 0} (page : Option A) (words : List (List ℕ)) (e : WordsError) → Err e ≡ read words →
    IfSome page (λ _. IsNotPlain words)
if_refused None words e is = tt
if_refused (Some x) words e is = not_plain words e is

pub if_asked : {A : Type 0} (page : Option A) (words : List (List ℕ)) (b : Bool) → b ≡ asks_for_page words → b ≡ true →
    IfSome page (λ _. asks_for_page words ≡ true)
if_asked None words b is holds = tt
if_asked (Some x) words b is holds = sym is ∙ holds

pub ruleset asking = (common_steps, if_refused, if_asked)
