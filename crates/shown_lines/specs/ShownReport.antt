-- The task of showing the lines of an answer.
use Rattle.std.specs.Prelude.{◌≡◌, ℕ, ◌≤◌, List, length, None}
use Rattle.frame_core.specs.declared.status.Status.TheVariants.{Done}
use Rattle.frame_core.specs.Reported.{Reply, Refusal}
use Rattle.frame_core.specs.Task.{Task, at_once}
use Rattle.shown_lines.specs.Shown.{shown_text}

-- the most bytes that are read: 1 TiB
abbrev pub most_shown : ℕ
most_shown = 1099511627776

pub record IsShownText (bytes text : List ℕ) : Type 0 where
  pub within : length bytes ≤ most_shown
  pub is : text ≡ shown_text bytes

abbrev pub shown_reply : List ℕ → Reply
shown_reply text = record { text = text; report = None; status = Done }

abbrev pub has_fault : List ℕ → ⊥ → Type 0
has_fault bytes fault = ⊥

abbrev pub no_refusal : ⊥ → Refusal
no_refusal fault = absurd fault

-- Each answer that isn't too long has its lines.
abbrev pub shown_task : Task
shown_task = at_once most_shown (List ℕ) IsShownText shown_reply ⊥ has_fault no_refusal
