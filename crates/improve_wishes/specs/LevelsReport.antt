-- The report of an improvement by wishes.
use Rattle.std.specs.Prelude.{ℕ, Bool, List, ◌++◌, codes, decimal}
use Rattle.std.specs.List.{flat_map}
use Rattle.net_theory.specs.Document.{Name}
use Rattle.improve_theory.specs.Undecided.{Undecided}
use Rattle.improve_windows.specs.Report.{first_line, last_line, window_text, report_text}
use Rattle.wish_names.specs.declared.wishes.LevelsAsked.{LevelsAsked}
use Rattle.wish_names.specs.declared.wishes.LevelsAsked.TheVariants.{Untold, Tell, Keep, Most}

-- the levels of the net before and after
unfoldable pub levels_line : ℕ → ℕ → List ℕ
levels_line before after = codes "levels " ++ decimal before ++ codes " -> " ++ decimal after ++ codes "\n"

-- the lines of gates and of levels
abbrev pub short_report : ℕ → ℕ → ℕ → ℕ → List ℕ
short_report before after levels_before levels_after = first_line before after ++ levels_line levels_before levels_after

-- Without a wish it is the report of `improve`. With `--levels tell` the line of levels comes after the first one. Where
-- the levels are limited no window is searched exactly, and there are these two lines.
-- Example: `gates 3 -> 1`, `levels 2 -> 1` and `settled`.
abbrev pub wished_report : LevelsAsked → List Name → ℕ → ℕ → ℕ → ℕ → ℕ → Bool → List Undecided → List ℕ
wished_report Untold names sources before after levels_before levels_after settled undecided =
    report_text names sources before after settled undecided
wished_report Tell names sources before after levels_before levels_after settled undecided =
    short_report before after levels_before levels_after ++ flat_map (window_text names sources) undecided ++ last_line settled
wished_report Keep names sources before after levels_before levels_after settled undecided =
    short_report before after levels_before levels_after
wished_report (Most n) names sources before after levels_before levels_after settled undecided =
    short_report before after levels_before levels_after
