-- The state of `recheck` after the bytes read so far, for both kinds of certificates.
use Rattle.std.specs.Prelude.{ℕ, ◌≤◌, List, ◌++◌, length}
use Rattle.text_core.specs.Lines.{Line}
use Rattle.line_reader.specs.Reader.{IsReader, StandsFor}
use Rattle.line_reader.specs.Seen.{seen}
use Rattle.frame_core.specs.Task.{Task, Refuses}
use Rattle.frame_core.specs.Views.{refusal_value}
use Rattle.cmd_recheck.specs.declared.job.Reading.{Reading}
use Rattle.cmd_recheck.specs.declared.job.Reading.TheVariants.{Good, Refused}

-- the reader represents the bytes, or a line has a fault: whatever follows, the text is refused with it, if it has no
-- more bytes than are read
abbrev pub Keeps : {S : Type 0} → Task → ℕ → (S → ℕ → List Line → List Line → Type 0) → Reading S → List ℕ → Type 0
Keeps task most stands (Good reader) bytes = StandsFor stands (seen reader) bytes
Keeps task most stands (Refused refusal) bytes = (rest : List ℕ) → length (bytes ++ rest) ≤ most → Refuses task (bytes ++ rest) (refusal_value refusal)

-- the invariant of the reader holds
abbrev pub IsWhole : {S : Type 0} → (S → ℕ → Type 0) → Reading S → Type 0
IsWhole whole (Good reader) = IsReader whole (seen reader)
IsWhole whole (Refused refusal) = Unit {0}
