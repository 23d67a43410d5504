-- The lines of an answer that are shown where its certificate goes to a file.
use Rattle.std.specs.Prelude.{◌||◌, nat_eq, ℕ, Bool, List, [], ◌∷◌, ◌++◌, codes, if◌then◌else◌}
use Rattle.std.specs.List.{starts_with}
use Rattle.text_core.specs.Lines.{Line, lines_of, line_bytes}

abbrev pub begins : List ℕ → List ℕ → Bool
begins text word = starts_with nat_eq text word

-- Examples: `chain 2`, `x3 x1 x2 0110`, `out x3`. Lines of tables and logs begin with a digit or a dash.
abbrev pub is_of_chain : List ℕ → Bool
is_of_chain text = begins text (codes "chain ") || begins text (codes "x") || begins text (codes "out ")

-- Examples: `minimum 5`, `open 4`, `levels 3`; the line `open` of a subproblem has no blank.
abbrev pub is_verdict : List ℕ → Bool
is_verdict text = begins text (codes "minimum ") || begins text (codes "bounded ") || begins text (codes "none ") ||
    begins text (codes "open ") || begins text (codes "levels")

-- Examples: `equal`, `differ output y`, `at 101`
abbrev pub is_result : List ℕ → Bool
is_result text = begins text (codes "equal") || begins text (codes "differ ") || begins text (codes "undecided") ||
    begins text (codes "at ")

abbrev pub is_shown : List ℕ → Bool
is_shown text = is_of_chain text || is_verdict text || is_result text

-- the lines that are shown, as they are written
unfoldable pub shown_of : List Line → List ℕ
shown_of [] = []
shown_of (l ∷ ls) = (if is_shown l.text then line_bytes l else []) ++ shown_of ls

abbrev pub shown_text : List ℕ → List ℕ
shown_text bytes = shown_of (lines_of bytes)
