-- Two small commands.
use Rattle.std.specs.Prelude.{◌≡◌, ℕ, ◌≤◌, List, [], ◌∷◌, map, length, codes, Some, None}
use Rattle.frame_core.specs.declared.status.Status.TheVariants.{Done}
use Rattle.port_io.specs.Bytes.{Appends, AppendsPrefix}
use Rattle.port_io.specs.Faults.{Rose}
use Rattle.frame_core.specs.declared.replies.RunEnd.{RunEnd}
use Rattle.frame_core.specs.declared.replies.RunEnd.TheVariants as ended
use Rattle.frame_core.specs.Outside.{PortState, IsFaultless}
use Rattle.frame_core.specs.Reported.{Reply, joined, parted}
use Rattle.frame_core.specs.Task.{Task, from_nothing, in_pieces, begins_none}

-- A command that reads nothing, writes a greeting, and reports in parts.
abbrev pub greeting : Unit {0} → Reply
greeting u = record { text = codes "hello\n"; report = Some (parted (codes "2 parts\n") (codes "one\n" ∷ codes "two\n" ∷ []) (codes "done\n")); status = Done }

abbrev pub greeting_task : Task
greeting_task = from_nothing (Unit {0}) (λ (u : Unit {0}). Unit {0}) greeting

-- A command that writes each of at most three bytes on a line of its own, line by line.
abbrev pub line_of : ℕ → List ℕ
line_of byte = byte ∷ 10 ∷ []

abbrev pub lines_text : List ℕ → List ℕ
lines_text bytes = joined (map line_of bytes)

abbrev pub lines_reply : List ℕ → Reply
lines_reply bytes = record { text = lines_text bytes; report = None; status = Done }

-- The answer is the input, which has at most three bytes.
pub record AreBytes (bytes answer : List ℕ) : Type 0 where
  pub are : answer ≡ bytes
  pub within : length bytes ≤ 3

abbrev pub lines_task : Task
lines_task = in_pieces (Some 3) (List ℕ) AreBytes lines_reply ⊥ (λ (bytes : List ℕ) (fault : ⊥). ⊥) (λ (fault : ⊥). absurd fault) begins_none

-- What the command of lines writes to the output.
abbrev pub WritesLines : List ℕ → RunEnd → PortState → PortState → Type 0
WritesLines bytes (ended.Answered status) old new = (status ≡ Done) × (Appends old.bytes new.bytes (lines_text bytes) × IsFaultless old new)
WritesLines bytes ended.Truncated old new = AppendsPrefix old.bytes new.bytes (lines_text bytes) × Rose old.faults new.faults
WritesLines bytes ended.OutOfMemoryMidway old new = AppendsPrefix old.bytes new.bytes (lines_text bytes) × IsFaultless old new
WritesLines bytes e old new = ⊥
