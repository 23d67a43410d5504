-- The state of showing the lines of an answer.
use Rattle.std.specs.Prelude.{◌≡◌, ℕ, List, ◌++◌}
use Rattle.text_core.specs.Lines.{Line}
use Rattle.shown_lines.specs.declared.stage.ShownStage.{ShownStage}
use Rattle.shown_lines.specs.Shown.{shown_of}

-- It has the shown lines so far.
abbrev pub has_shown : ShownStage → ℕ → List Line → List Line → Type 0
has_shown stage number lines all = shown_of all ≡ stage.shown.items ++ shown_of lines

abbrev pub is_stage : ShownStage → ℕ → Type 0
is_stage stage number = Unit {0}
