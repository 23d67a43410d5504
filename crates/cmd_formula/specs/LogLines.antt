-- The lines of a log, among the lines of a certificate.
use Rattle.std.specs.Prelude.{ℕ, zero, suc, ◌+◌, Bool, true, false, if◌then◌else◌, List, [], ◌∷◌, is_some}
use Rattle.text_core.specs.Lines.{Line}
use Rattle.cert_theory.specs.Spelling.{size_line, done_text}
use Rattle.cert_theory.specs.SubproblemLines.{is_line, ended_in}

-- the lines after the first line of this text
unfoldable pub lines_after : List ℕ → List Line → List Line
lines_after text [] = []
lines_after text (l ∷ ls) = if is_line text l then ls else lines_after text ls

-- the lines before it
unfoldable pub lines_before : List ℕ → List Line → List Line
lines_before text [] = []
lines_before text (l ∷ ls) = if is_line text l then [] else l ∷ lines_before text ls

-- the lines after so many logs
unfoldable pub after_logs : ℕ → List Line → List Line
after_logs zero ls = ls
after_logs (suc count) ls = after_logs count (lines_after done_text ls)

-- the lines after the first line of the next log
unfoldable pub log_from : List Line → List Line
log_from [] = []
log_from (l ∷ ls) = if is_some (ended_in l) then ls else log_from ls

-- whether more than so many logs end before the first line of this text
unfoldable pub has_log : List ℕ → ℕ → List Line → Bool
has_log text others [] = false
has_log text zero (l ∷ ls) = if is_line text l then false
    else if is_line done_text l then true
    else has_log text zero ls
has_log text (suc others) (l ∷ ls) = if is_line text l then false
    else if is_line done_text l then has_log text others ls
    else has_log text (suc others) ls

-- the lines of the log that comes after so many others
abbrev pub found_lines : ℕ → List Line → List Line
found_lines others ls = lines_before done_text (log_from (after_logs others ls))

-- the lines of the log of a size that comes after so many others; none where its section ends before
abbrev pub log_lines : ℕ → ℕ → List Line → List Line
log_lines size others ls = if has_log (size_line (size + 1)) others (lines_after (size_line size) ls)
    then found_lines others (lines_after (size_line size) ls)
    else []
