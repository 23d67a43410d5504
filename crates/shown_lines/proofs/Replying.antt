-- The shown lines of an answer are its reply.
use Rattle.std.specs.Prelude.{◌≡◌, ℕ, ◌≤◌, List, length}
use Rattle.std.proofs.Common.{refl}
use Rattle.std.proofs.lemmas.Grind.{common_steps}
use Rattle.frame_core.specs.Task.{HasReply}
use Rattle.shown_lines.specs.Shown.{shown_text}
use Rattle.shown_lines.specs.ShownReport.{most_shown, shown_reply, shown_task}

pub replies : (bytes text : List ℕ) → length bytes ≤ most_shown → text ≡ shown_text bytes →
    HasReply shown_task bytes (shown_reply text)
replies bytes text within is = record { answer = text; has = record { within = within; is = is }; is = refl }

pub ruleset replying = (common_steps, replies)
