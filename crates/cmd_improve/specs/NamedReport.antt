-- The task of `improve` for the netlist of a file that is named: an empty text isn't a netlist.
use Rattle.std.specs.Prelude.{◌≡◌, ℕ, ◌≤◌, List, length, true, false, codes}
use Rattle.net_theory.specs.Limits.{most_of_netlist}
use Rattle.net_core.specs.declared.error.NetError.{NetError}
use Rattle.equiv_run.specs.Two.{is_bare}
use Rattle.settings.specs.declared.improve.ImproveSettings.{ImproveSettings}
use Rattle.frame_core.specs.declared.status.Status.TheVariants.{Malformed}
use Rattle.frame_core.specs.Reported.{Refusal, plain}
use Rattle.frame_core.specs.Task.{Task, at_once}
use Rattle.cmd_improve.specs.ImproveReport.{FormatAsked, Improvement, improve_reply, improve_refusal, IsImprovement, HasNetlistFault}

-- Why the text of a file isn't improved: it says nothing; a fault of the netlist.
pub data NamedFault : Type 0 where
  Empty : NamedFault
  Faulty : (error : NetError) → NamedFault

-- The text has a directive, and was improved.
pub record IsNamedImprovement (format : FormatAsked) (settings : ImproveSettings) (bytes : List ℕ)
    (i : Improvement) : Type 0 where
  pub said : is_bare bytes ≡ false
  pub improvement : IsImprovement format settings bytes i

-- An empty text is reported before any other fault.
pub record IsEmpty (bytes : List ℕ) : Type 0 where
  pub within : length bytes ≤ most_of_netlist
  pub bare : is_bare bytes ≡ true

pub record IsFaulty (format : FormatAsked) (bytes : List ℕ) (error : NetError) : Type 0 where
  pub said : is_bare bytes ≡ false
  pub fault : HasNetlistFault format bytes error

abbrev pub HasNamedFault : FormatAsked → List ℕ → NamedFault → Type 0
HasNamedFault format bytes Empty = IsEmpty bytes
HasNamedFault format bytes (Faulty error) = IsFaulty format bytes error

-- the refusal of an empty text, by a name
unfoldable pub empty_refusal : List ℕ → Refusal
empty_refusal name = record { status = Malformed; named = plain name }

-- Examples: `Empty`, `NotSupported 6 .model`
abbrev pub named_refusal : NamedFault → Refusal
named_refusal Empty = empty_refusal (codes "Empty")
named_refusal (Faulty error) = improve_refusal error

abbrev pub named_task : FormatAsked → ImproveSettings → Task
named_task format settings = at_once most_of_netlist Improvement
    (IsNamedImprovement format settings) improve_reply NamedFault (HasNamedFault format) named_refusal
