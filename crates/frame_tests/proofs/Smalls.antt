-- The small commands implement their tasks.
use Rattle.std.specs.Prelude.{◌≡◌, ℕ, ◌≤◌, List, length}
use Rattle.std.proofs.Common.{refl, sym, subst}
use Rattle.std.proofs.lemmas.Grind.{common_steps}
use Rattle.frame_core.specs.declared.status.Status.{Status}
use Rattle.frame_core.specs.declared.replies.RunEnd.{RunEnd}
use Rattle.frame_core.specs.declared.replies.RunEnd.TheVariants as ended
use Rattle.frame_core.specs.Outside.{PortState}
use Rattle.frame_core.specs.Reported.{Reply}
use Rattle.frame_core.specs.Task.{HasReply}
use Rattle.frame_core.specs.Performing.{Answers}
use Rattle.frame_core.specs.PerformingLaws.{left_of, pieces_sent, pieces_truncated, pieces_out_of_memory}
use Rattle.frame_tests.specs.Small.{greeting, greeting_task, lines_reply, lines_task, WritesLines}

pub greets : (bytes : List ℕ) (reply : Reply) → reply ≡ greeting tt → HasReply greeting_task bytes reply
greets bytes reply is = record { answer = tt; has = tt; is = is }

lines_tell : (bytes : List ℕ) → length bytes ≤ 3 → HasReply lines_task bytes (lines_reply bytes)
lines_tell bytes within = record { answer = bytes; has = record { are = refl; within = within }; is = refl }

pub lines_answered : (bytes : List ℕ) (e : RunEnd) (out note : PortState × PortState) → length bytes ≤ 3 → WritesLines bytes e out.0 out.1 → note.1 ≡ note.0 → Answers lines_task bytes e out note
lines_answered bytes ended.ReadFault out note within writes same = absurd writes
lines_answered bytes ended.TooLong out note within writes same = absurd writes
lines_answered bytes ended.Memory out note within writes same = absurd writes
lines_answered bytes (ended.Answered status) out note within writes same =
    subst (λ (s : Status). Answers lines_task bytes (ended.Answered s) out note) (sym writes.0)
    (pieces_sent lines_task bytes (lines_reply bytes) out note (lines_tell bytes within) refl writes.1.0 writes.1.1 same)
lines_answered bytes ended.Truncated out note within writes same =
    pieces_truncated lines_task bytes out note (left_of lines_task bytes (lines_reply bytes) out.0 out.1 (lines_tell bytes within) writes.0) writes.1 same
lines_answered bytes ended.OutOfMemoryMidway out note within writes same =
    pieces_out_of_memory lines_task bytes out note refl (left_of lines_task bytes (lines_reply bytes) out.0 out.1 (lines_tell bytes within) writes.0) writes.1 same
lines_answered bytes ended.ReportTruncated out note within writes same = absurd writes
lines_answered bytes (ended.NoAnswer refusal) out note within writes same = absurd writes

pub ruleset telling = (common_steps, greets)
