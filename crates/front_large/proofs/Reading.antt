-- Words that are read as a command, or as none.
use Rattle.std.specs.Prelude.{◌≡◌, Bool, true, false, if◌then◌else◌, Option, Some, None, is_some, Result, Ok, Err}
use Rattle.std.proofs.Common.{refl, sym, ap, ◌∙◌}
use Rattle.std.proofs.lemmas.Grind.{common_steps}
use Rattle.command_line.specs.declared.command.Command.{Command}
use Rattle.command_line.specs.declared.command.WordsError.{WordsError}
use Rattle.command_line.specs.CommandLine.{command_of, or_usage}
use Rattle.front_large.specs.declared.large.Large.{Large}
use Rattle.front_large.specs.LargeWords.{Given, large_for, large_of}

found : (o : Option Command) (c : Command) → or_usage o ≡ Ok c → o ≡ Some c
found None c e = absurd cc
found (Some d) c e = cc

nothing : (o : Option Command) (e : WordsError) → or_usage o ≡ Err e → o ≡ None
nothing None e is = refl
nothing (Some d) e is = absurd cc

-- what is asked by options that could all be read
kept_when : (good : Bool) (asked result : Option Large) → good ≡ true → result ≡ asked →
    result ≡ (if good then asked else None)
kept_when true asked result is same = same
kept_when false asked result is same = absurd cc

-- words of a command
pub large_by : (g : Given) (read : Result Command WordsError) (c : Command) (result : Option Large) → g.good ≡ true →
    read ≡ or_usage (command_of g.words) → read ≡ Ok c → result ≡ large_for (Some c) g → result ≡ large_of g
large_by g read c result good holds is same =
    kept_when g.good (large_for (command_of g.words) g) result good
    (same ∙ sym (ap (λ (o : Option Command). large_for o g) (found (command_of g.words) c (sym holds ∙ is))))

-- or of none
pub no_large : (g : Given) (read : Result Command WordsError) (e : WordsError) → g.good ≡ true →
    read ≡ or_usage (command_of g.words) → read ≡ Err e → None ≡ large_of g
no_large g read e good holds is =
    kept_when g.good (large_for (command_of g.words) g) None good
    (sym (ap (λ (o : Option Command). large_for o g) (nothing (command_of g.words) e (sym holds ∙ is))))

-- whether there is one
pub some_command : (read : Result Command WordsError) (o : Option Command) (c : Command) → read ≡ or_usage o →
    read ≡ Ok c → true ≡ is_some o
some_command read o c holds is = sym (ap is_some (found o c (sym holds ∙ is)))

pub no_command : (read : Result Command WordsError) (o : Option Command) (e : WordsError) → read ≡ or_usage o →
    read ≡ Err e → false ≡ is_some o
no_command read o e holds is = sym (ap is_some (nothing o e (sym holds ∙ is)))

pub ruleset reading = (common_steps, large_by, no_large, some_command, no_command)
