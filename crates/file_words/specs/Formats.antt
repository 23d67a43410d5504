-- The format of a netlist, by the end of its file's name.
use Rattle.std.specs.Prelude.{ℕ, List, [], ◌∷◌, Bool, false, ◌||◌, codes, if◌then◌else◌}
use Rattle.command_line.specs.Options.{is_word}
use Rattle.command_line.specs.CommandLine.{is_named}

-- The word ends with a text that isn't empty.
unfoldable pub ends_with : List ℕ → List ℕ → Bool
ends_with [] end = false
ends_with (b ∷ bs) end = is_word (b ∷ bs) end || ends_with bs end

abbrev pub names_bench : List (List ℕ) → Bool
names_bench [] = false
names_bench (file ∷ files) = ends_with file (codes ".bench")

-- The words are those of `improve` without `--format`, and the file is in BENCH by its name.
abbrev pub wants_bench : List (List ℕ) → List (List ℕ) → Bool
wants_bench [] files = false
wants_bench (name ∷ options) files =
    if is_word name (codes "improve") then
    if is_named (codes "--format") options then false else names_bench files
    else false
