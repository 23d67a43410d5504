-- The task of showing lines is well formed.
use Rattle.std.proofs.Common.{refl, inl}
use Rattle.frame_core.specs.Task.{IsTask}
use Rattle.frame_core.specs.TaskLaws.{at_once_task}
use Rattle.std.specs.Prelude.{ℕ, List}
use Rattle.shown_lines.specs.ShownReport.{most_shown, IsShownText, shown_reply, has_fault, no_refusal, shown_task}

pub shown_is_task : IsTask shown_task
shown_is_task =
    at_once_task most_shown (List ℕ) IsShownText shown_reply ⊥ has_fault no_refusal
    (λ text. inl refl)
    (λ bytes fault meets. absurd fault)
    (λ bytes text fault has meets. meets)
    (λ bytes a b x y. absurd x)
    (λ bytes text has. has.within)
    (λ bytes fault meets. absurd meets)
