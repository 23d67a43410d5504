-- Words that ask for help.
use Rattle.std.specs.Prelude.{ℕ, List, [], ◌∷◌, Bool, true, false, if◌then◌else◌, ◌||◌, codes}
use Rattle.command_line.specs.Options.{is_word}

-- an option that asks for help
abbrev pub is_help_option : List ℕ → Bool
is_help_option word = is_word word (codes "--help") || is_word word (codes "-h")

-- a first word that does: no command has one of these names
abbrev pub is_help_word : List ℕ → Bool
is_help_word word = is_word word (codes "help") || (is_help_option word || is_word word (codes "--version"))

-- Such an option is among the words before `--`. What follows `-o` is the name of a file, as the first word is where `is_file`.
-- Example: `--max --help` asks for help, while `-o --help` and `-- --help` don't.
unfoldable pub names_help : Bool → List (List ℕ) → Bool
names_help is_file [] = false
names_help true (word ∷ words) = names_help false words
names_help false (word ∷ words) =
    if is_word word (codes "--") then false
    else (if is_help_option word then true else names_help (is_word word (codes "-o")) words)

-- The first word asks for help, or after a command's name an option does.
unfoldable pub asks_for_page : List (List ℕ) → Bool
asks_for_page [] = false
asks_for_page (word ∷ words) = if is_help_word word then true else names_help false words
